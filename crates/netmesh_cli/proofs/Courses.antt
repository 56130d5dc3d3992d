-- How far a refused call came: from what its parts ensured, and from there to the cause of the refusal and to
-- what stands after it. One proof for all verbs.
use Rattle.std.proofs.Common.{◌≡◌, ◌≢◌, inl, inr, ℕ, ◌≤◌, ◌++◌, List, [], ◌∷◌, map, sym, subst, ap, refl, ◌∙◌}
use Rattle.std.specs.Prelude.{Option}
use Rattle.folder_io.specs.Causes.{Told, ToldBoth}
use Rattle.folder_io.specs.Names.{Files, held_at}
use Rattle.folder_io.specs.States.{FolderState, SinkState, FailedFor}
use Rattle.netmesh_cli.specs.declared.outcome.Outcome.{Outcome}
use Rattle.netmesh_cli.specs.declared.outcome.Refusal.{Refusal}
use Rattle.netmesh_cli.specs.declared.outcome.Refusal.TheVariants.{Words, In2d, Geometry, Rules, Vol, Log, Folder, Out, Memory, NotYet}
use Rattle.netmesh_cli.specs.Causes.{PutRefused, AnswerRefused, AnswerLeaves, IsUntaken}
use Rattle.netmesh_cli.specs.Taking.{AreAccepted, TakesRefused}
use Rattle.netmesh_cli.specs.declared.made.Put.{Put as PutValue}
use Rattle.netmesh_cli.specs.Jobs.{put_of, Job, MeshJob, GeomJob, RulesJob, CheckJob, ViewJob, takes_of, puts_of, Put, Made, Makes, names_of_puts, GenJob}
use Rattle.netmesh_cli.specs.Served.{IsListed, AreApart, put_all, IsServed, IsAnswer, StopsAt, StopsAtPut, PutsRefused, HasAll, WrittenBefore, MakeRefused, Course, at_make, at_put, at_answer, of_take, of_put, RefusalCause, FolderStands, RefusalStands, Keeps, ArePutInOrder}
use Rattle.netmesh_cli.proofs.Tolds.{told_weaker, told_as_before, told_both_weaker, told_before, told_then}
use Rattle.netmesh_cli.proofs.Firsts.{named, no_out, no_words}
use Rattle.netmesh_cli.proofs.Puts.{put_since, others_at, untouched, order_at, order_all}

-- ---- what is made

-- it is put under the verb's names
pub makes_names : (job : Job) (files : Files) (made : Made) → Makes job files made → names_of_puts made.puts ≡ puts_of job
makes_names (MeshJob task) files made makes = ap names_of_puts makes.puts
makes_names (GeomJob geometry) files made makes = ap names_of_puts makes.puts
makes_names (RulesJob rules) files made makes = ap names_of_puts makes.puts
makes_names (CheckJob geometry mesh) files made makes = ap names_of_puts makes.puts
makes_names (ViewJob log domain step) files made makes = ap names_of_puts makes.puts
makes_names (GenJob squares parts) files made makes = ap names_of_puts makes.puts

-- of files that are accepted
pub makes_accepted : (job : Job) (files : Files) (made : Made) → Makes job files made → AreAccepted (takes_of job) files
makes_accepted (MeshJob task) files made makes = let rules = makes.rules in (
  record {
    bytes = makes.geometry.bytes;
    holds = makes.geometry.holds;
    accepted = record { raw = makes.raw; geometry = makes.input.geometry; written = makes.geometry.written };
  },
  (record { bytes = rules.bytes; holds = rules.holds; accepted = record { rules = makes.input.rules; are = rules.are } }, tt),
)
makes_accepted (GeomJob geometry) files made makes = (record { bytes = makes.held.bytes; holds = makes.held.holds; accepted = record { raw = makes.raw; geometry = makes.geometry; written = makes.held.written } }, tt)
makes_accepted (RulesJob rules) files made makes = (record { bytes = makes.held.bytes; holds = makes.held.holds; accepted = record { rules = makes.rules; are = makes.held.are } }, tt)
makes_accepted (CheckJob geometry mesh) files made makes = (
  record { bytes = makes.held.bytes; holds = makes.held.holds; accepted = record { raw = makes.raw; geometry = makes.grid; written = makes.held.written } },
  (
    record {
      bytes = makes.mesh_held.bytes;
      holds = makes.mesh_held.holds;
      accepted = record { raw = makes.raw; grid = makes.grid; held = makes.held; mesh = makes.read; written = makes.mesh_held.written };
    },
    tt,
  ),
)
makes_accepted (ViewJob log domain step) files made makes = (
  record {
    bytes = makes.held.bytes;
    holds = makes.held.holds;
    accepted = record { view = makes.view; is = makes.held.state };
  },
  tt,
)
makes_accepted (GenJob squares parts) files made makes = tt

-- ---- the exits of a call

-- nothing is made, as the takes were refused
pub make_refused : (job : Job) (before now : FolderState) (r : Refusal) → TakesRefused before now r (takes_of job) → MakeRefused job before now r
make_refused job before now (Words fault) refused = refused
make_refused job before now (In2d fault) refused = refused
make_refused job before now (Geometry fault) refused = refused
make_refused job before now (Rules fault) refused = refused
make_refused job before now (Vol fault) refused = refused
make_refused job before now (Log fault) refused = refused
make_refused job before now (Folder name number) refused = refused
make_refused job before now Out refused = refused
make_refused job before now Memory refused = tt
make_refused job before now (NotYet part) refused = refused

pub exit_at_put : (job : Job) (made : Made) (puts : List Put) (s0 s1 s2 : FolderState) (o0 o1 : SinkState) (r : Refusal) → s1.held ≡ s0.held → s0.faults ≤ s1.faults → Told s0.held (λ files. Makes job files made) → names_of_puts made.puts ≡ puts_of job → puts ≡ made.puts → PutsRefused puts s1 s2 r → Course job s0 s2 o0 o1 r
exit_at_put job made puts s0 s1 s2 o0 o1 r same kept makes names are some = let refused = subst (λ (ps : List Put). PutsRefused ps s1 s2 r) are some in at_put refused.name
    (subst (IsListed refused.name) names refused.listed)
    (told_then s0.held s2.held (λ files. Makes job files made) (StopsAt made.puts refused.name) (StopsAtPut job refused.name)
    (λ old new is stops. record { made = made; makes = is; stops = stops })
    makes (subst (λ (h : Option Files). ToldBoth h s2.held (StopsAt made.puts refused.name)) same refused.stops))
    (put_since refused.name s0 s1 s2 r kept refused.refused)

-- all is put
pub all_put : (job : Job) (made : Made) (puts : List Put) (h0 h1 h2 : Option Files) → h1 ≡ h0 → Told h0 (λ files. Makes job files made) → puts ≡ made.puts → ToldBoth h1 h2 (λ old new. new ≡ put_all puts old) → ToldBoth h0 h2 (λ old new. Makes job old made × (new ≡ put_all made.puts old))
all_put job made puts h0 h1 h2 same makes are put = told_then h0 h2 (λ files. Makes job files made) (λ old new. new ≡ put_all puts old) (λ old new. Makes job old made × (new ≡ put_all made.puts old))
    (λ old new is e. (is, e ∙ ap (λ (ps : List Put). put_all ps old) are)) makes (subst (λ (h : Option Files). ToldBoth h h2 (λ old new. new ≡ put_all puts old)) same put)

pub exit_at_answer : (job : Job) (made : Made) (s0 s2 : FolderState) (o0 o1 : SinkState) (r : Refusal) → ToldBoth s0.held s2.held (λ old new. Makes job old made × (new ≡ put_all made.puts old)) → AnswerRefused o0 o1 r → Course job s0 s2 o0 o1 r
exit_at_answer job made s0 s2 o0 o1 r put refused = at_answer
    (told_both_weaker s0.held s2.held _ (HasAll job) (λ old new was. record { made = made; makes = was.0; put = was.1 }) put) refused

-- and the answer is written
pub served : (job : Job) (made : Made) (outcome : Outcome) (h0 h2 : Option Files) (w0 w1 : Option (List ℕ)) (bytes : List ℕ) → outcome ≡ made.outcome → bytes ≡ made.answer → ToldBoth h0 h2 (λ old new. Makes job old made × (new ≡ put_all made.puts old)) → ToldBoth w0 w1 (λ before now. now ≡ before ++ bytes) → ToldBoth h0 h2 (IsServed job outcome w0 w1)
served job made outcome h0 h2 w0 w1 bytes is_outcome is_answer put written = told_both_weaker h0 h2 _ (IsServed job outcome w0 w1)
    (λ old new was. record {
      made = made;
      makes = was.0;
      put = was.1;
      written = subst (λ (b : List ℕ). ToldBoth w0 w1 (λ before now. now ≡ before ++ b)) is_answer written;
      ends = is_outcome;
    }) put

-- a verb that puts nothing has no file to put, and no put is refused
pub no_puts : (puts : List PutValue) (names : List (List ℕ)) → names_of_puts (map put_of puts) ≡ names → names ≡ [] → puts ≡ []
no_puts [] names e none = refl
no_puts (put ∷ puts) names e none = absurd cc

pub none_refused : (job : Job) (puts made : List Put) (s1 s2 : FolderState) (r : Refusal) → names_of_puts made ≡ puts_of job → puts ≡ made → puts_of job ≡ [] → ¬ PutsRefused puts s1 s2 r
none_refused job puts made s1 s2 r names are none refused = subst (IsListed refused.name) (ap names_of_puts are ∙ names ∙ none) refused.listed

-- what was written before the refusal's line
pub written_answer : (job : Job) (made : Made) (held : Option Files) (w0 w1 : Option (List ℕ)) (bytes : List ℕ) (r : Refusal) → bytes ≡ made.answer → Told held (λ files. Makes job files made) → AnswerLeaves bytes w0 w1 r → WrittenBefore (IsAnswer job held) w0 w1 r
written_answer job made held w0 w1 bytes (Words fault) is makes leaves = leaves
written_answer job made held w0 w1 bytes (In2d fault) is makes leaves = leaves
written_answer job made held w0 w1 bytes (Geometry fault) is makes leaves = leaves
written_answer job made held w0 w1 bytes (Rules fault) is makes leaves = leaves
written_answer job made held w0 w1 bytes (Vol fault) is makes leaves = leaves
written_answer job made held w0 w1 bytes (Log fault) is makes leaves = leaves
written_answer job made held w0 w1 bytes (Folder name number) is makes leaves = leaves
written_answer job made held w0 w1 bytes Out is makes leaves = (bytes, told_weaker held _ _ (λ files m. (made, m, is)) makes, leaves)
written_answer job made held w0 w1 bytes Memory is makes leaves = leaves
written_answer job made held w0 w1 bytes (NotYet part) is makes leaves = leaves

-- nothing was
pub unwritten : (IsAnswer : List ℕ → Type 0) (w : Option (List ℕ)) (r : Refusal) → r ≢ Out → WrittenBefore IsAnswer w w r
unwritten IsAnswer w (Words fault) other = refl
unwritten IsAnswer w (In2d fault) other = refl
unwritten IsAnswer w (Geometry fault) other = refl
unwritten IsAnswer w (Rules fault) other = refl
unwritten IsAnswer w (Vol fault) other = refl
unwritten IsAnswer w (Log fault) other = refl
unwritten IsAnswer w (Folder name number) other = refl
unwritten IsAnswer w Out other = absurd (other refl)
unwritten IsAnswer w Memory other = refl
unwritten IsAnswer w (NotYet part) other = refl

-- a refusal before the answer is none of the answer
pub make_not_out : (job : Job) (before now : FolderState) (r : Refusal) → MakeRefused job before now r → r ≢ Out
make_not_out job before now r refused e = no_out before now (takes_of job) (subst (MakeRefused job before now) e refused)

put_not_out : (name : List ℕ) (before now : FolderState) (r : Refusal) → PutRefused name before now r → r ≢ Out
put_not_out name before now r refused e = subst (PutRefused name before now) e refused

pub puts_not_out : (puts : List Put) (before now : FolderState) (r : Refusal) → PutsRefused puts before now r → r ≢ Out
puts_not_out puts before now r refused = put_not_out refused.name before now r refused.refused

-- ---- the cause

cause_at_make : (job : Job) (s0 s1 : FolderState) (untaken : Type 0) (r : Refusal) → MakeRefused job s0 s1 r → RefusalCause job s0 s1 untaken r
cause_at_make job s0 s1 untaken (Words fault) refused = no_words fault s0 s1 (takes_of job) refused
cause_at_make job s0 s1 untaken (In2d fault) refused = refused
cause_at_make job s0 s1 untaken (Geometry fault) refused = refused
cause_at_make job s0 s1 untaken (Rules fault) refused = refused
cause_at_make job s0 s1 untaken (Vol fault) refused = refused
cause_at_make job s0 s1 untaken (Log fault) refused = refused
cause_at_make job s0 s1 untaken (Folder name number) refused = of_take refused
cause_at_make job s0 s1 untaken Out refused = absurd (no_out s0 s1 (takes_of job) refused)
cause_at_make job s0 s1 untaken Memory refused = tt
cause_at_make job s0 s1 untaken (NotYet part) refused = refused

cause_at_put : (job : Job) (s0 s1 : FolderState) (untaken : Type 0) (name : List ℕ) (r : Refusal) → IsListed name (puts_of job) → Told s0.held (AreAccepted (takes_of job)) → PutRefused name s0 s1 r → RefusalCause job s0 s1 untaken r
cause_at_put job s0 s1 untaken name (Words fault) listed accepted refused = absurd refused
cause_at_put job s0 s1 untaken name (In2d fault) listed accepted refused = absurd refused
cause_at_put job s0 s1 untaken name (Geometry fault) listed accepted refused = absurd refused
cause_at_put job s0 s1 untaken name (Rules fault) listed accepted refused = absurd refused
cause_at_put job s0 s1 untaken name (Vol fault) listed accepted refused = absurd refused
cause_at_put job s0 s1 untaken name (Log fault) listed accepted refused = absurd refused
cause_at_put job s0 s1 untaken name (Folder named number) listed accepted refused = of_put
    (subst (λ (n : List ℕ). IsListed n (puts_of job)) (sym refused.0) listed) accepted refused.1
    (subst (λ (n : List ℕ). FailedFor s0 s1 n) (sym refused.0) refused.2)
cause_at_put job s0 s1 untaken name Out listed accepted refused = absurd refused
cause_at_put job s0 s1 untaken name Memory listed accepted refused = tt
cause_at_put job s0 s1 untaken name (NotYet part) listed accepted refused = absurd refused

cause_at_answer : (job : Job) (s0 s1 : FolderState) (o0 o1 : SinkState) (r : Refusal) → Told s0.held (AreAccepted (takes_of job)) → AnswerRefused o0 o1 r → RefusalCause job s0 s1 (IsUntaken o0 o1) r
cause_at_answer job s0 s1 o0 o1 (Words fault) accepted refused = absurd refused
cause_at_answer job s0 s1 o0 o1 (In2d fault) accepted refused = absurd refused
cause_at_answer job s0 s1 o0 o1 (Geometry fault) accepted refused = absurd refused
cause_at_answer job s0 s1 o0 o1 (Rules fault) accepted refused = absurd refused
cause_at_answer job s0 s1 o0 o1 (Vol fault) accepted refused = absurd refused
cause_at_answer job s0 s1 o0 o1 (Log fault) accepted refused = absurd refused
cause_at_answer job s0 s1 o0 o1 (Folder name number) accepted refused = absurd refused
cause_at_answer job s0 s1 o0 o1 Out accepted refused = (accepted, refused)
cause_at_answer job s0 s1 o0 o1 Memory accepted refused = tt
cause_at_answer job s0 s1 o0 o1 (NotYet part) accepted refused = absurd refused

pub cause_of : (job : Job) (s0 s1 : FolderState) (o0 o1 : SinkState) (r : Refusal) → Course job s0 s1 o0 o1 r → RefusalCause job s0 s1 (IsUntaken o0 o1) r
cause_of job s0 s1 o0 o1 r (at_make same refused) = cause_at_make job s0 s1 (IsUntaken o0 o1) r refused
cause_of job s0 s1 o0 o1 r (at_put name listed stops refused) = cause_at_put job s0 s1 (IsUntaken o0 o1) name r listed
    (told_before s0.held s1.held (StopsAtPut job name) (AreAccepted (takes_of job)) (λ old new s. makes_accepted job old s.made s.makes) stops) refused
cause_of job s0 s1 o0 o1 r (at_answer put refused) = cause_at_answer job s0 s1 o0 o1 r
    (told_before s0.held s1.held (HasAll job) (AreAccepted (takes_of job)) (λ old new s. makes_accepted job old s.made s.makes) put) refused

-- ---- what stands after any call

pub keeps_same : (job : Job) (files : Files) → Keeps job files files
keeps_same job files = record { others = λ other away. refl; unaccepted = λ away. refl; in_order = inl refl }

made_apart : (job : Job) (files : Files) (made : Made) → AreApart (puts_of job) → Makes job files made → AreApart (names_of_puts made.puts)
made_apart job files made apart makes = subst AreApart (sym (makes_names job files made makes)) apart

keeps_at_put : (job : Job) → AreApart (puts_of job) → (name : List ℕ) (old new : Files) → StopsAtPut job name old new → Keeps job old new
keeps_at_put job apart name old new s = record {
  others = λ other away. others_at s.made.puts name old new s.stops other (subst (λ (names : List (List ℕ)). ¬ IsListed other names) (sym (makes_names job old s.made s.makes)) away);
  unaccepted = λ away. absurd (away (makes_accepted job old s.made s.makes));
  in_order = inr (record { made = s.made; makes = s.makes; order = order_at s.made.puts name old new (made_apart job old s.made apart s.makes) s.stops });
}

pub keeps_all : (job : Job) → AreApart (puts_of job) → (old new : Files) → HasAll job old new → Keeps job old new
keeps_all job apart old new s = record {
  others = λ other away. ap (λ (files : Files). held_at files other) s.put ∙ untouched s.made.puts old other (subst (λ (names : List (List ℕ)). ¬ IsListed other names) (sym (makes_names job old s.made s.makes)) away);
  unaccepted = λ away. absurd (away (makes_accepted job old s.made s.makes));
  in_order = inr (record { made = s.made; makes = s.makes; order = subst (λ (files : Files). ArePutInOrder s.made.puts old files) (sym s.put) (order_all s.made.puts old (made_apart job old s.made apart s.makes)) });
}

pub keeps_of : (job : Job) → AreApart (puts_of job) → (s0 s1 : FolderState) (o0 o1 : SinkState) (r : Refusal) → Course job s0 s1 o0 o1 r → ToldBoth s0.held s1.held (Keeps job)
keeps_of job apart s0 s1 o0 o1 r (at_make same refused) = told_as_before s0.held s1.held (Keeps job) same (keeps_same job)
keeps_of job apart s0 s1 o0 o1 r (at_put name listed stops refused) = told_both_weaker s0.held s1.held (StopsAtPut job name) (Keeps job) (keeps_at_put job apart name) stops
keeps_of job apart s0 s1 o0 o1 r (at_answer put refused) = told_both_weaker s0.held s1.held (HasAll job) (Keeps job) (keeps_all job apart) put

-- ---- what stands after a refusal

stands_at_make : (job : Job) (s0 s1 : FolderState) (r : Refusal) → MakeRefused job s0 s1 r → (files : Files) → RefusalStands job files files r
stands_at_make job s0 s1 (Words fault) refused files = refl
stands_at_make job s0 s1 (In2d fault) refused files = refl
stands_at_make job s0 s1 (Geometry fault) refused files = refl
stands_at_make job s0 s1 (Rules fault) refused files = refl
stands_at_make job s0 s1 (Vol fault) refused files = refl
stands_at_make job s0 s1 (Log fault) refused files = refl
stands_at_make job s0 s1 (Folder name number) refused files = record {
  not_failed = λ other. refl;
  not_put = λ away. refl;
  at_put = λ listed. inl refl;
  at_put_alone = λ listed untaken. absurd (untaken (named s0 s1 name number (takes_of job) refused));
}
stands_at_make job s0 s1 Out refused files = absurd (no_out s0 s1 (takes_of job) refused)
stands_at_make job s0 s1 Memory refused files = tt
stands_at_make job s0 s1 (NotYet part) refused files = refl

folder_stands : (job : Job) (name : List ℕ) (number : ℕ) (old new : Files) → IsListed name (puts_of job) → number ≡ 1 → StopsAtPut job name old new → FolderStands job old new name number
folder_stands job name number old new listed one s = record {
  not_failed = λ other. absurd (other one);
  not_put = λ away. absurd (away listed);
  at_put = λ _. inr s;
  at_put_alone = λ _ _. s;
}

stands_at_put : (job : Job) (name : List ℕ) (s0 s1 : FolderState) (r : Refusal) → IsListed name (puts_of job) → PutRefused name s0 s1 r → (old new : Files) → StopsAtPut job name old new → RefusalStands job old new r
stands_at_put job name s0 s1 (Words fault) listed refused old new s = absurd refused
stands_at_put job name s0 s1 (In2d fault) listed refused old new s = absurd refused
stands_at_put job name s0 s1 (Geometry fault) listed refused old new s = absurd refused
stands_at_put job name s0 s1 (Rules fault) listed refused old new s = absurd refused
stands_at_put job name s0 s1 (Vol fault) listed refused old new s = absurd refused
stands_at_put job name s0 s1 (Log fault) listed refused old new s = absurd refused
stands_at_put job name s0 s1 (Folder other number) listed refused old new s = subst (λ (n : List ℕ). FolderStands job old new n number) (sym refused.0) (folder_stands job name number old new listed refused.1 s)
stands_at_put job name s0 s1 Out listed refused old new s = absurd refused
stands_at_put job name s0 s1 Memory listed refused old new s = tt
stands_at_put job name s0 s1 (NotYet part) listed refused old new s = absurd refused

stands_at_answer : (job : Job) (o0 o1 : SinkState) (r : Refusal) → AnswerRefused o0 o1 r → (old new : Files) → HasAll job old new → RefusalStands job old new r
stands_at_answer job o0 o1 (Words fault) refused old new s = absurd refused
stands_at_answer job o0 o1 (In2d fault) refused old new s = absurd refused
stands_at_answer job o0 o1 (Geometry fault) refused old new s = absurd refused
stands_at_answer job o0 o1 (Rules fault) refused old new s = absurd refused
stands_at_answer job o0 o1 (Vol fault) refused old new s = absurd refused
stands_at_answer job o0 o1 (Log fault) refused old new s = absurd refused
stands_at_answer job o0 o1 (Folder name number) refused old new s = absurd refused
stands_at_answer job o0 o1 Out refused old new s = s
stands_at_answer job o0 o1 Memory refused old new s = tt
stands_at_answer job o0 o1 (NotYet part) refused old new s = absurd refused

abbrev pub StandAfter : Job → FolderState → FolderState → Refusal → Type 0
StandAfter job s0 s1 r = ToldBoth s0.held s1.held (λ old new. RefusalStands job old new r)

pub stands_of : (job : Job) (s0 s1 : FolderState) (o0 o1 : SinkState) (r : Refusal) → Course job s0 s1 o0 o1 r → StandAfter job s0 s1 r
stands_of job s0 s1 o0 o1 r (at_make same refused) = told_as_before s0.held s1.held (λ old new. RefusalStands job old new r) same (stands_at_make job s0 s1 r refused)
stands_of job s0 s1 o0 o1 r (at_put name listed stops refused) = told_both_weaker s0.held s1.held (StopsAtPut job name) (λ old new. RefusalStands job old new r) (stands_at_put job name s0 s1 r listed refused) stops
stands_of job s0 s1 o0 o1 r (at_answer put refused) = told_both_weaker s0.held s1.held (HasAll job) (λ old new. RefusalStands job old new r) (stands_at_answer job o0 o1 r refused) put
