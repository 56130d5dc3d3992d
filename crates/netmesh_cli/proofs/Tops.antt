-- From how a call went, and how its refusal was told, to what the top call promises.
use Rattle.std.proofs.Common.{◌≡◌, ℕ, ◌≤◌, ◌⊎◌, inl, inr, ◌++◌, List, [], sym, subst, ap, ◌∙◌}
use Rattle.std.specs.Prelude.{Option}
use Rattle.folder_io.specs.Causes.{ToldBoth, GrowsByPrefix}
use Rattle.folder_io.specs.Names.{Files}
use Rattle.folder_io.specs.States.{FolderState, SinkState}
use Rattle.folder_io.proofs.Counts.{rose_from_earlier, rose_until_later}
use Rattle.netmesh_cli.specs.declared.outcome.Outcome.{Outcome}
use Rattle.netmesh_cli.specs.declared.outcome.Outcome.TheVariants.{Done, Stuck, Stopped, Good, Bad, Shown, Refused}
use Rattle.netmesh_cli.specs.declared.outcome.Refusal.{Refusal}
use Rattle.netmesh_cli.specs.declared.outcome.Refusal.TheVariants.{Words, In2d, Geometry, Rules, Vol, Log, Folder, Out, Memory, NotYet}
use Rattle.call_words.specs.Commands.{MeshTask}
use Rattle.netmesh_cli.specs.Causes.{IsUntaken}
use Rattle.netmesh_cli.specs.Jobs.{Job, MeshJob, GeomJob, RulesJob, CheckJob, ViewJob, puts_of, EndsSo, Put, GenJob}
use Rattle.netmesh_cli.specs.Served.{AreApart, put_all, IsServed, IsAnswer, HasAll, WrittenBefore, Course, RefusalCause, RefusalStands, Keeps}
use Rattle.netmesh_cli.specs.Lines.{refusal_line}
use Rattle.netmesh_cli.specs.Top.{IfServed, IfRefused, IsRefusedAnd, IsServedOr, WritesOrFails, WritesLine, HasLine, Telling, no_line, line_told, no_memory, Answers, HoldsMesh}
use Rattle.netmesh_cli.proofs.Tolds.{told_both_weaker}
use Rattle.netmesh_cli.proofs.Courses.{cause_of, keeps_of, keeps_all, stands_of, StandAfter}

-- ---- how a refusal is told

-- after `tell` a fact of the refusal is one of what became of it, where it holds of want of memory
pub fact_told : (P : Refusal → Type 0) (o0 o1 : SinkState) (given result : Refusal) → P Memory → Telling o0 o1 given result → P given → P result
fact_told P o0 o1 given result of_memory (no_line none same kept) fact = subst P (sym same) fact
fact_told P o0 o1 given result of_memory (line_told has same told) fact = subst P (sym same) fact
fact_told P o0 o1 given result of_memory (no_memory has memory kept) fact = subst P (sym memory) of_memory

-- before a refusal with a line nothing was written
unwritten_before : (IsAnswer : List ℕ → Type 0) (w0 w1 : Option (List ℕ)) (given : Refusal) → HasLine given → WrittenBefore IsAnswer w0 w1 given → w1 ≡ w0
unwritten_before IsAnswer w0 w1 (Words fault) has written = written
unwritten_before IsAnswer w0 w1 (In2d fault) has written = written
unwritten_before IsAnswer w0 w1 (Geometry fault) has written = written
unwritten_before IsAnswer w0 w1 (Rules fault) has written = written
unwritten_before IsAnswer w0 w1 (Vol fault) has written = written
unwritten_before IsAnswer w0 w1 (Log fault) has written = written
unwritten_before IsAnswer w0 w1 (Folder name number) has written = written
unwritten_before IsAnswer w0 w1 Out has written = absurd has
unwritten_before IsAnswer w0 w1 Memory has written = absurd has
unwritten_before IsAnswer w0 w1 (NotYet part) has written = written

writes_line : (o0 o1 : SinkState) (given : Refusal) → HasLine given → WritesOrFails o0 o1 (refusal_line given) → WritesLine o0 o1 given
writes_line o0 o1 (Words fault) has told = told
writes_line o0 o1 (In2d fault) has told = told
writes_line o0 o1 (Geometry fault) has told = told
writes_line o0 o1 (Rules fault) has told = told
writes_line o0 o1 (Vol fault) has told = told
writes_line o0 o1 (Log fault) has told = told
writes_line o0 o1 (Folder name number) has told = told
writes_line o0 o1 Out has told = absurd has
writes_line o0 o1 Memory has told = absurd has
writes_line o0 o1 (NotYet part) has told = told

writes_none : (IsAnswer : List ℕ → Type 0) (o0 o1 o2 : SinkState) (given : Refusal) → WrittenBefore IsAnswer o0.written o1.written given → ¬ HasLine given → o2.written ≡ o1.written → WritesLine o0 o2 given
writes_none IsAnswer o0 o1 o2 (Words fault) written none kept = absurd (none tt)
writes_none IsAnswer o0 o1 o2 (In2d fault) written none kept = absurd (none tt)
writes_none IsAnswer o0 o1 o2 (Geometry fault) written none kept = absurd (none tt)
writes_none IsAnswer o0 o1 o2 (Rules fault) written none kept = absurd (none tt)
writes_none IsAnswer o0 o1 o2 (Vol fault) written none kept = absurd (none tt)
writes_none IsAnswer o0 o1 o2 (Log fault) written none kept = absurd (none tt)
writes_none IsAnswer o0 o1 o2 (Folder name number) written none kept = absurd (none tt)
writes_none IsAnswer o0 o1 o2 Out written none kept = tt
writes_none IsAnswer o0 o1 o2 Memory written none kept = kept ∙ written
writes_none IsAnswer o0 o1 o2 (NotYet part) written none kept = absurd (none tt)

-- the line of a call whose sink had written nothing before it
line_since : (o0 o1 o2 : SinkState) (line : List ℕ) → o1.written ≡ o0.written → o0.faults ≤ o1.faults → WritesOrFails o1 o2 line → WritesOrFails o0 o2 line
line_since o0 o1 o2 line same kept told = told_both_weaker o0.written o2.written
    (λ old new. (new ≡ old ++ line) ⊎ (IsUntaken o1 o2 × GrowsByPrefix line old new)) (λ old new. (new ≡ old ++ line) ⊎ (IsUntaken o0 o2 × GrowsByPrefix line old new))
    (λ old new h. elim h as (λ _. (new ≡ old ++ line) ⊎ (IsUntaken o0 o2 × GrowsByPrefix line old new)) [ inl all ↦ inl all | inr some ↦ inr (rose_from_earlier o0.faults o1.faults o2.faults kept some.0, some.1) ])
    (subst (λ (w : Option (List ℕ)). ToldBoth w o2.written (λ old new. (new ≡ old ++ line) ⊎ (IsUntaken o1 o2 × GrowsByPrefix line old new))) same told)

pub line_after : (IsAnswer : List ℕ → Type 0) (o0 o1 o2 : SinkState) (given result : Refusal) → WrittenBefore IsAnswer o0.written o1.written given → o0.faults ≤ o1.faults → Telling o1 o2 given result → WritesLine o0 o2 result
line_after IsAnswer o0 o1 o2 given result written kept (no_line none same left) = subst (WritesLine o0 o2) (sym same) (writes_none IsAnswer o0 o1 o2 given written none left)
line_after IsAnswer o0 o1 o2 given result written kept (line_told has same told) = subst (WritesLine o0 o2) (sym same) (writes_line o0 o2 given has (line_since o0 o1 o2 (refusal_line given) (unwritten_before IsAnswer o0.written o1.written given has written) kept told))
line_after IsAnswer o0 o1 o2 given result written kept (no_memory has memory left) = subst (WritesLine o0 o2) (sym memory) (left ∙ unwritten_before IsAnswer o0.written o1.written given has written)

-- an answer of which a sink took a prefix
out_lineless : (given : Refusal) → given ≡ Out → ¬ HasLine given
out_lineless given e has = subst HasLine e has

untaken_at : (IsAnswer : List ℕ → Type 0) (o0 o1 o2 : SinkState) (given : Refusal) → given ≡ Out → o2.written ≡ o1.written → WrittenBefore IsAnswer o0.written o1.written given → (answer : List ℕ) × IsAnswer answer × ToldBoth o0.written o2.written (GrowsByPrefix answer)
untaken_at IsAnswer o0 o1 o2 given is_out left written =
    let P : Refusal → Type 0 = WrittenBefore IsAnswer o0.written o1.written in
    let at_out : WrittenBefore IsAnswer o0.written o1.written Out = subst P is_out written in
    (at_out.0, at_out.1, subst (λ (w : Option (List ℕ)). ToldBoth o0.written w (GrowsByPrefix at_out.0)) (sym left) at_out.2)

untaken_after : (IsAnswer : List ℕ → Type 0) (o0 o1 o2 : SinkState) (given result : Refusal) → WrittenBefore IsAnswer o0.written o1.written given → Telling o1 o2 given result → result ≡ Out → (answer : List ℕ) × IsAnswer answer × ToldBoth o0.written o2.written (GrowsByPrefix answer)
untaken_after IsAnswer o0 o1 o2 given result written (no_line none same left) is_out = untaken_at IsAnswer o0 o1 o2 given (sym same ∙ is_out) left written
untaken_after IsAnswer o0 o1 o2 given result written (line_told has same told) is_out = absurd (out_lineless given (sym same ∙ is_out) has)
untaken_after IsAnswer o0 o1 o2 given result written (no_memory has memory left) is_out = let e : Memory ≡ Out = sym memory ∙ is_out in absurd (cc)

-- ---- refused

cause_later : (job : Job) (s0 s1 : FolderState) (o0 o1 o2 : SinkState) (r : Refusal) → o1.faults ≤ o2.faults → RefusalCause job s0 s1 (IsUntaken o0 o1) r → RefusalCause job s0 s1 (IsUntaken o0 o2) r
cause_later job s0 s1 o0 o1 o2 (Words fault) later cause = cause
cause_later job s0 s1 o0 o1 o2 (In2d fault) later cause = cause
cause_later job s0 s1 o0 o1 o2 (Geometry fault) later cause = cause
cause_later job s0 s1 o0 o1 o2 (Rules fault) later cause = cause
cause_later job s0 s1 o0 o1 o2 (Vol fault) later cause = cause
cause_later job s0 s1 o0 o1 o2 (Log fault) later cause = cause
cause_later job s0 s1 o0 o1 o2 (Folder name number) later cause = cause
cause_later job s0 s1 o0 o1 o2 Out later cause = (cause.0, rose_until_later o0.faults o1.faults o2.faults cause.1 later)
cause_later job s0 s1 o0 o1 o2 Memory later cause = cause
cause_later job s0 s1 o0 o1 o2 (NotYet part) later cause = cause

pub refused_cause : (job : Job) (s0 s1 : FolderState) (o0 o1 o2 : SinkState) (given result : Refusal) → o1.faults ≤ o2.faults → Course job s0 s1 o0 o1 given → Telling o1 o2 given result → RefusalCause job s0 s1 (IsUntaken o0 o2) result
refused_cause job s0 s1 o0 o1 o2 given result later course telling = fact_told (RefusalCause job s0 s1 (IsUntaken o0 o2)) o1 o2 given result tt telling (cause_later job s0 s1 o0 o1 o2 given later (cause_of job s0 s1 o0 o1 given course))

pub refused_answers : (job : Job) → AreApart (puts_of job) → (s0 s1 : FolderState) (o0 o1 o2 : SinkState) (given result : Refusal) → o1.faults ≤ o2.faults → Course job s0 s1 o0 o1 given → WrittenBefore (IsAnswer job s0.held) o0.written o1.written given → (puts_of job ≡ [] → s1.held ≡ s0.held) → Telling o1 o2 given result → Answers job (Refused result) s0 s1 o0 o2
refused_answers job apart s0 s1 o0 o1 o2 given result later course written nothing telling = record {
  ending = tt;
  served = tt;
  cause = refused_cause job s0 s1 o0 o1 o2 given result later course telling;
  stands = fact_told (StandAfter job s0 s1) o1 o2 given result (told_both_weaker s0.held s1.held (Keeps job) (λ old new. RefusalStands job old new Memory) (λ old new k. tt) keeps) telling (stands_of job s0 s1 o0 o1 given course);
  keeps = keeps;
  puts_nothing = nothing;
  untaken = λ is_out. untaken_after (IsAnswer job s0.held) o0 o1 o2 given result written telling is_out;
}
  where
    keeps : ToldBoth s0.held s1.held (Keeps job)
    keeps = keeps_of job apart s0 s1 o0 o1 given course

-- ---- served

never_refused : (job : Job) (r : Refusal) → ¬ EndsSo job (Refused r)
never_refused (MeshJob task) r ends = ends
never_refused (GeomJob geometry) r ends = ends
never_refused (RulesJob rules) r ends = ends
never_refused (CheckJob geometry mesh) r ends = ends
never_refused (ViewJob log domain step) r ends = ends
never_refused (GenJob squares parts) r ends = ends

if_served : (outcome : Outcome) (P : Outcome → Type 0) → P outcome → IfServed outcome P
if_served Done P fact = fact
if_served Stuck P fact = fact
if_served Stopped P fact = fact
if_served Good P fact = fact
if_served Bad P fact = fact
if_served Shown P fact = fact
if_served (Refused r) P fact = tt

pub if_refused : (job : Job) (outcome : Outcome) (P : Refusal → Type 0) → EndsSo job outcome → IfRefused outcome P
if_refused job Done P ends = tt
if_refused job Stuck P ends = tt
if_refused job Stopped P ends = tt
if_refused job Good P ends = tt
if_refused job Bad P ends = tt
if_refused job Shown P ends = tt
if_refused job (Refused r) P ends = absurd (never_refused job r ends)

not_refused : (job : Job) (outcome : Outcome) (P : Refusal → Type 0) → EndsSo job outcome → ¬ IsRefusedAnd outcome P
not_refused job Done P ends refused = refused
not_refused job Stuck P ends refused = refused
not_refused job Stopped P ends refused = refused
not_refused job Good P ends refused = refused
not_refused job Bad P ends refused = refused
not_refused job Shown P ends refused = refused
not_refused job (Refused r) P ends refused = never_refused job r ends

pub served_or : (job : Job) (outcome : Outcome) (P : Refusal → Type 0) → EndsSo job outcome → IsServedOr outcome P
served_or job Done P ends = tt
served_or job Stuck P ends = tt
served_or job Stopped P ends = tt
served_or job Good P ends = tt
served_or job Bad P ends = tt
served_or job Shown P ends = tt
served_or job (Refused r) P ends = absurd (never_refused job r ends)

all_of_served : (job : Job) (outcome : Outcome) (w0 w1 : Option (List ℕ)) (old new : Files) → IsServed job outcome w0 w1 old new → HasAll job old new
all_of_served job outcome w0 w1 old new s = record { made = s.made; makes = s.makes; put = s.put }

pub served_answers : (job : Job) → AreApart (puts_of job) → (outcome : Outcome) (s0 s1 : FolderState) (o0 o1 : SinkState) → EndsSo job outcome → ToldBoth s0.held s1.held (IsServed job outcome o0.written o1.written) → (puts_of job ≡ [] → s1.held ≡ s0.held) → Answers job outcome s0 s1 o0 o1
served_answers job apart outcome s0 s1 o0 o1 ends served nothing = record {
  ending = if_served outcome (EndsSo job) ends;
  served = if_served outcome (λ o. ToldBoth s0.held s1.held (IsServed job o o0.written o1.written)) served;
  cause = if_refused job outcome (RefusalCause job s0 s1 (IsUntaken o0 o1)) ends;
  stands = if_refused job outcome (StandAfter job s0 s1) ends;
  keeps = told_both_weaker s0.held s1.held (IsServed job outcome o0.written o1.written) (Keeps job) (λ old new s. keeps_all job apart old new (all_of_served job outcome o0.written o1.written old new s)) served;
  puts_nothing = nothing;
  untaken = λ refused. absurd (not_refused job outcome _ ends refused);
}

-- ---- `mesh`, in one place

mesh_served : (task : MeshTask) (outcome : Outcome) (w0 w1 : Option (List ℕ)) (old new : Files) → IsServed (MeshJob task) outcome w0 w1 old new → HoldsMesh task outcome w0 w1 old new
mesh_served task outcome w0 w1 old new s = let m = s.makes in record {
  input = m.input;
  raw = m.raw;
  geometry = m.geometry;
  rules = m.rules;
  options = m.options;
  run = m.run;
  is_run = m.is_run;
  files = s.put ∙ ap (λ (ps : List Put). put_all ps old) m.puts;
  line = subst (λ (b : List ℕ). ToldBoth w0 w1 (λ before now. now ≡ before ++ b)) m.answer s.written;
  ended = s.ends ∙ m.outcome;
  exact = m.exact;
}

pub mesh_held : (task : MeshTask) (outcome : Outcome) (s0 s1 : FolderState) (o0 o1 : SinkState) → Answers (MeshJob task) outcome s0 s1 o0 o1 → IfServed outcome (λ served. ToldBoth s0.held s1.held (HoldsMesh task served o0.written o1.written))
mesh_held task outcome s0 s1 o0 o1 answers = go outcome answers.served
  where
    held : (o : Outcome) → ToldBoth s0.held s1.held (IsServed (MeshJob task) o o0.written o1.written) → ToldBoth s0.held s1.held (HoldsMesh task o o0.written o1.written)
    held o told = told_both_weaker s0.held s1.held (IsServed (MeshJob task) o o0.written o1.written) (HoldsMesh task o o0.written o1.written) (mesh_served task o o0.written o1.written) told

    go : (o : Outcome) → IfServed o (λ served. ToldBoth s0.held s1.held (IsServed (MeshJob task) served o0.written o1.written)) → IfServed o (λ served. ToldBoth s0.held s1.held (HoldsMesh task served o0.written o1.written))
    go Done told = held Done told
    go Stuck told = held Stuck told
    go Stopped told = held Stopped told
    go Good told = held Good told
    go Bad told = held Bad told
    go Shown told = held Shown told
    go (Refused r) told = tt
