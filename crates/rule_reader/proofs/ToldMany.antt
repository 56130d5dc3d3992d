-- Where the readers of many entries, of sections and of rules fail.
--
-- A section is a series: entries one after another, up to a limit. Its reader fails at an entry, which is told already, or
-- past the last entry that may be: there a limit is passed, and with that limit left aside one entry more is read. All of
-- this is said of a series once, by the room that is left (told_series); what differs is how a reader fails past its last
-- entry: at an opening bracket (told_entries), or at the coefficient behind a comma (told_rest). The readers of rows,
-- sections, names and rules are put together from these, one after another.
--
-- Series       entries one after another, and their limit
-- ToldSeries   what must be known of a series
-- told_series  a series is told
-- told_body    a rule, whatever its indices, is told
use Rattle.std.proofs.Common.{pos, ◌≡◌, ℕ, zero, suc, ◌+◌, ◌<◌, ◌≤◌, Bool, true, false, cond, eqb, ltb, List, [], ◌∷◌, ◌++◌, length, Option, Some, None, Ok, Err, refl, sym, ap, subst, ◌∙◌, inl, inr, ◌⊎◌, arith}
use Rattle.std.proofs.lemmas.List.{append-nil}
use Rattle.std.proofs.lemmas.Bool.{eqb-true}
use Rattle.std.proofs.lemmas.Bool.Decides.{nat_tests}
use Rattle.rule_reader.specs.declared.fault.Fault.{Fault}
use Rattle.rule_reader.specs.declared.fault.Fault.TheVariants.{Syntax, TooMany}
use Rattle.rule_reader.specs.declared.reader.Fit.TheVariants.{Fits, Unfit, NoNumber}
use Rattle.rule_reader.specs.declared.reader.Use.{Use}
use Rattle.rule_reader.specs.declared.reader.Bound.TheVariants.{Mapped, Any}
use Rattle.rule_reader.specs.declared.rule.Term.{Term}
use Rattle.rule_reader.specs.declared.sections.Parts.{Parts}
use Rattle.rule_reader.specs.declared.sections.SectionKind.{SectionKind}
use Rattle.rule_reader.specs.declared.sections.SectionKind.TheVariants as kind
use Rattle.rule_reader.specs.Words.{Tok, MarkTok, TextTok, NumberTok, NameTok, BadTok, State, head}
use Rattle.rule_reader.specs.Reading.{Read, ◌>>=◌, judged, is_fit, mark_fit, name_fit, text_fit, is_number, mark_at, number_at, text_at, term_at, terms_at, entries_at, map_point_at, map_line_at, pair_at, element_at, turn_at}
use Rattle.rule_reader.specs.Sections.{empty_parts, section_of, has, fresh, section_fit, rule_of, rule_word, endrule_word}
use Rattle.rule_reader.specs.Grammar.{Limits, Said, plain, naming, words, ◌▹◌, done, either, many, at_most, mark, text, term, terms, row, rows, place, map_point, map_line, pair, element, turn, content, section, sections, any_sections, rule_name, rule_said}
use Rattle.rule_reader.specs.Refusals.{kind_of, AtEntry, AtTerm, AtName}
use Rattle.rule_reader.proofs.Good.{◌▸◌, pure, bind_ok, okay, after}
use Rattle.rule_reader.proofs.GoodEntries.{st_of, good_text}
use Rattle.rule_reader.proofs.GoodLists.{mark_head}
use Rattle.rule_reader.proofs.GoodMany.{upto, more_of, more_is, is_open, entries_stop, entries_full, is_comma, comma_term, rest_terms, terms_more, rest_full, rest_more}
use Rattle.rule_reader.proofs.GoodSections.{good_section_word, coordinates_head, ends_head, map_line_head, element_head}
use Rattle.rule_reader.proofs.GoodFile.{short_name, named_takes}
use Rattle.rule_reader.proofs.Within.{inner_terms_in, row_in, any_row_in, rows_in, place_in, content_in, section_word_at, section_in, sections_in, name_in, body_in}
use Rattle.rule_reader.proofs.Told.{Blind, Like, past_like, past_same, Larger, extra, raised, Gone, Broken, Told, ToldIn, Follows, Says, Completes, IsFault, is_unfit, blind_same, bind_err, fault_first, fault_same, fault_not, gone_in, broken_in, gone_then, broken_first, broken_second, then, by_next, told_same, word_broken, complete_said, gone_good, grow_then}
use Rattle.rule_reader.proofs.Told.{ends as ended}
use Rattle.rule_reader.proofs.ToldEntries.{if_is, blind_mark, blind_name, wants_none, told_mark, told_name, told_quality, told_coordinates, told_map_point, told_map_line, told_pair, told_element, told_turn, told_term, nought, says_number, small_bound, says_variable}

-- ---- a series: entries one after another, up to a limit

-- how a reader of entries goes on
pub record Runs (A : Type 0) (entry : ℕ → State → Read A) (test : Option Tok → Bool) (run : ℕ → ℕ → State → Read (List A)) : Type 0 where
  pub full : (k : ℕ) (st : State) (x : List A × State) → test (head st.left) ≡ true → run k zero st ≡ Ok x → ⊥
  pub more : (k room : ℕ) (st : State) → test (head st.left) ≡ true → run k (suc room) st ≡ (entry k st >>= λ x. run (k + 1) room x.1 >>= λ xs. Ok (x.0 ∷ xs.0, xs.1))
  pub stop : (k room : ℕ) (st : State) → test (head st.left) ≡ false → run k room st ≡ Ok ([], st)

-- the number of its limit; what one entry says, with k before it, and its reader; the reader of all, with k before and room for so many; and the test that one comes
pub record Series (A : Type 0) : Type 1 where
  pub what : ℕ
  pub says : Limits → ℕ → List Said → A → Type 0
  pub entry : Limits → ℕ → State → Read A
  pub run : Limits → ℕ → ℕ → State → Read (List A)
  pub test : Option Tok → Bool

-- what so many entries say, at most, and what they say where the limit of a number is left aside
abbrev pub Ones : {A : Type 0} → Series A → Limits → ℕ → ℕ → List Said → List A → Type 0
Ones s most k room = upto (s.says most) k room

abbrev pub More : {A : Type 0} → Series A → Limits → ℕ → ℕ → Larger (List A)
More s most k room what = Ones s (raised what most) k (room + extra what s.what)

-- a series whose entries are told, and of which it is known how it fails past the last entry that may be
pub record ToldSeries (A : Type 0) (most : Limits) (s : Series A) : Type 0 where
  pub runs : (limits : Limits) → Runs A (s.entry limits) s.test (s.run limits)
  pub blind : Blind s.test
  pub told : (k : ℕ) → ToldIn most (λ limits. s.says limits k) (λ limits. s.entry limits k)
  pub past : (k : ℕ) (room : Limits → ℕ) (st : State) (f : Fault) → ((limits : Limits) → limits s.what ≡ most s.what → room limits ≡ zero) → s.test (head st.left) ≡ true → s.run most k zero st ≡ Err f
      → Broken (List A) most (Ones s most k zero) (More s most k zero) (λ limits. s.run limits k (room limits)) st f

pred : ℕ → ℕ
pred zero = zero
pred (suc n) = n

agree_pred : (C : Type 0) (room2 room : ℕ) → (C → room2 ≡ suc room) → C → pred room2 ≡ room
unfolding pred
agree_pred C zero room agree c = let no : zero ≡ suc room = agree c in absurd (omega arith)
agree_pred C (suc n) room agree c = let yes : suc n ≡ suc room = agree c in omega arith

pub many_grow : {A : Type 0} (L M : ℕ → List Said → A → Type 0) → ((k : ℕ) (said : List Said) (v : A) → L k said v → M k said v) → (k : ℕ) (said : List Said) (xs : List A) → many L k said xs → many M k said xs
unfolding many
many_grow L M grow k said [] l = l
many_grow L M grow k said (x ∷ xs) l = (l.0, l.1, grow k l.0 x l.2, many_grow L M grow (k + 1) l.1 xs l.3, l.4)

and_more : (a b c : ℕ) → a ≤ b → a ≤ b + c
and_more a b c h = omega arith

upto_grow : {A : Type 0} (L M : ℕ → List Said → A → Type 0) → ((k : ℕ) (said : List Said) (v : A) → L k said v → M k said v) → (k room others : ℕ) (said : List Said) (xs : List A) → upto L k room said xs → upto M k (room + others) said xs
upto_grow L M grow k room others said xs l = (many_grow L M grow k said xs l.0, and_more (length xs) room others l.1)

-- one entry, and then the others
abbrev Twin : {A : Type 0} → (ℕ → State → Read A) → (ℕ → ℕ → State → Read (List A)) → ℕ → ℕ → State → Read (List A)
Twin entry run k room = entry k ▸ λ x. run (k + 1) room ▸ λ xs. pure (x ∷ xs)

twin_is : (A : Type 0) (entry : ℕ → State → Read A) (test : Option Tok → Bool) (run : ℕ → ℕ → State → Read (List A)) → Runs A entry test run → (k room : ℕ) (st : State) → test (head st.left) ≡ true → run k (suc room) st ≡ Twin entry run k room st
unfolding ◌▸◌ pure
twin_is A entry test run runs k room st t = runs.more k room st t

follows_twin : (A : Type 0) (entry : ℕ → State → Read A) (test : Option Tok → Bool) (run : ℕ → ℕ → State → Read (List A)) → Runs A entry test run → (k room : ℕ) (s : State) → test (head s.left) ≡ true → IsFault (run k room s) ⊎ (run k room s ≡ Twin entry run k (pred room) s)
unfolding pred
follows_twin A entry test run runs k zero s t = inl (fault_not (run k zero s) (λ x e. runs.full k s x t e))
follows_twin A entry test run runs k (suc room) s t = inr (twin_is A entry test run runs k room s t)

nothing_upto : {A : Type 0} (L : ℕ → List Said → A → Type 0) (k room : ℕ) (said : List Said) (v : List A) → done [] said v → upto L k room said v
unfolding done many
nothing_upto L k room said v l = subst (λ (ys : List _). upto L k room said ys) (sym l.1) (l.0, omega arith)

pub says_none : {A : Type 0} (L : ℕ → List Said → A → Type 0) (k room : ℕ) → upto L k room [] []
unfolding many
says_none L k room = (refl, omega arith)

pure_ok : {A : Type 0} (x : List A) (r : Read (List A)) (st : State) → r ≡ Ok (x, st) → r ≡ pure x st
unfolding pure
pure_ok x r st e = e

pub not_both : {A : Type 0} (x : A) (f : Fault) → okay x ≡ Err f → ⊥
not_both x f e = cc

-- a reader within its own limits, where there is room for so many, beside readers within other limits
abbrev RunTold : (A : Type 0) → Limits → Series A → ℕ → ℕ → (Limits → ℕ) → Type 0
RunTold A most s k room room2 = Told (List A) most (Ones s most k room) (More s most k room) (s.run most k room) (λ limits. s.run limits k (room2 limits))

-- where no entry comes
stopped : (A : Type 0) (most : Limits) (s : Series A) → ToldSeries A most s → (k room : ℕ) (room2 : Limits → ℕ) (st : State) (v : List A) (st2 : State) → s.test (head st.left) ≡ false → s.run most k room st ≡ Ok (v, st2)
    → Gone (List A) (Ones s most k room) (λ limits. s.run limits k (room2 limits)) st v st2
stopped A most s m k room room2 st v st2 t read =
    gone_in st v st2 ((ended {most = most} []).ok st v st2 (sym (pure_ok [] (s.run most k room st) st ((m.runs most).stop k room st t)) ∙ read)) (nothing_upto (s.says most) k room)
    (λ limits q like. inr (pure_ok [] (s.run limits k (room2 limits) q) q ((m.runs limits).stop k (room2 limits) q (blind_same s.test m.blind (head q.left) (head st.left) like ∙ t))))

-- where one comes, and the others are told
twin_told : (A : Type 0) (most : Limits) (s : Series A) → ToldSeries A most s → (k room : ℕ) (room2 : Limits → ℕ) → RunTold A most s (k + 1) room room2
    → Told (List A) most (more_of (s.says most) k room) (λ what. more_of (s.says (raised what most)) k (room + extra what s.what)) (Twin (s.entry most) (s.run most) k room) (λ limits. Twin (s.entry limits) (s.run limits) k (room2 limits))
twin_told A most s m k room room2 others = then (m.told k) (λ x. then others (λ xs. ended (x ∷ xs)))

follows_run : (A : Type 0) (most : Limits) (s : Series A) → ToldSeries A most s → (k : ℕ) (room2 : Limits → ℕ) (st : State) → s.test (head st.left) ≡ true
    → Follows (λ limits. s.run limits k (room2 limits)) (λ limits. Twin (s.entry limits) (s.run limits) k (pred (room2 limits))) st
follows_run A most s m k room2 st t limits q like = follows_twin A (s.entry limits) s.test (s.run limits) (m.runs limits) k (room2 limits) q (blind_same s.test m.blind (head q.left) (head st.left) like ∙ t)

run_ok : (A : Type 0) (most : Limits) (s : Series A) → ToldSeries A most s → (k room : ℕ) (room2 : Limits → ℕ) (b : Bool) (st : State) (v : List A) (st2 : State) → s.test (head st.left) ≡ b → s.run most k room st ≡ Ok (v, st2)
    → ((less : ℕ) → room ≡ suc less → RunTold A most s (k + 1) less (λ limits. pred (room2 limits))) → Gone (List A) (Ones s most k room) (λ limits. s.run limits k (room2 limits)) st v st2
run_ok A most s m k room room2 false st v st2 t read others = stopped A most s m k room room2 st v st2 t read
run_ok A most s m k zero room2 true st v st2 t read others = absurd ((m.runs most).full k st (v, st2) t read)
run_ok A most s m k (suc room) room2 true st v st2 t read others =
    let twin = twin_told A most s m k room (λ limits. pred (room2 limits)) (others room refl) in
    gone_in st v st2 (twin.ok st v st2 (sym (twin_is A (s.entry most) s.test (s.run most) (m.runs most) k room st t) ∙ read)) (more_is (s.says most) k room) (follows_run A most s m k room2 st t)

more_than : {A : Type 0} (L : ℕ → List Said → A → Type 0) (k room others : ℕ) (said : List Said) (v : List A) → more_of L k (room + others) said v → upto L k (suc room + others) said v
more_than L k room others said v l = let n : suc (room + others) ≡ suc room + others = omega arith in subst (λ (n : ℕ). upto L k n said v) n (more_is L k (room + others) said v l)

run_err : (A : Type 0) (most : Limits) (s : Series A) → ToldSeries A most s → (k room : ℕ) (room2 : Limits → ℕ) (b : Bool) (st : State) (f : Fault) → ((limits : Limits) → limits s.what ≡ most s.what → room2 limits ≡ room) → s.test (head st.left) ≡ b → s.run most k room st ≡ Err f
    → ((less : ℕ) → room ≡ suc less → RunTold A most s (k + 1) less (λ limits. pred (room2 limits))) → Broken (List A) most (Ones s most k room) (More s most k room) (λ limits. s.run limits k (room2 limits)) st f
run_err A most s m k room room2 false st f agree t read others = absurd (not_both ([], st) f (sym ((m.runs most).stop k room st t) ∙ read))
run_err A most s m k zero room2 true st f agree t read others = m.past k room2 st f agree t read
run_err A most s m k (suc room) room2 true st f agree t read others =
    let twin = twin_told A most s m k room (λ limits. pred (room2 limits)) (others room refl) in
    broken_in st f (twin.err st f (sym (twin_is A (s.entry most) s.test (s.run most) (m.runs most) k room st t) ∙ read)) (more_is (s.says most) k room) (λ what. more_than (s.says (raised what most)) k room (extra what s.what)) (follows_run A most s m k room2 st t)

-- by the room that is left
told_run : (A : Type 0) (most : Limits) (s : Series A) → ToldSeries A most s → (room : ℕ) (room2 : Limits → ℕ) (k : ℕ) → ((limits : Limits) → limits s.what ≡ most s.what → room2 limits ≡ room) → RunTold A most s k room room2
told_run A most s m zero room2 k agree =
    record {
      some = ([], [], says_none (s.says most) k zero);
      grow = λ what. upto_grow (s.says most) (s.says (raised what most)) (λ k. (m.told k).grow what) k zero (extra what s.what);
      ok = λ st v st2 read. run_ok A most s m k zero room2 (s.test (head st.left)) st v st2 refl read (λ less e. absurd (omega arith));
      err = λ st f read. run_err A most s m k zero room2 (s.test (head st.left)) st f agree refl read (λ less e. absurd (omega arith));
    }
told_run A most s m (suc room) room2 k agree =
    let inner = told_run A most s m room (λ limits. pred (room2 limits)) (k + 1) (λ limits. agree_pred (limits s.what ≡ most s.what) (room2 limits) room (agree limits)) in
    let others : (less : ℕ) → suc room ≡ suc less → RunTold A most s (k + 1) less (λ limits. pred (room2 limits)) = λ less same. subst (λ (n : ℕ). RunTold A most s (k + 1) n (λ limits. pred (room2 limits))) (omega arith) inner in
    record {
      some = ([], [], says_none (s.says most) k (suc room));
      grow = λ what. upto_grow (s.says most) (s.says (raised what most)) (λ k. (m.told k).grow what) k (suc room) (extra what s.what);
      ok = λ st v st2 read. run_ok A most s m k (suc room) room2 (s.test (head st.left)) st v st2 refl read others;
      err = λ st f read. run_err A most s m k (suc room) room2 (s.test (head st.left)) st f agree refl read others;
    }

-- a series from its beginning
told_series : (A : Type 0) (most : Limits) (s : Series A) → ToldSeries A most s → ToldIn most (λ limits. at_most (limits s.what) (s.says limits)) (λ limits. s.run limits 0 (limits s.what))
unfolding at_most
told_series A most s m = told_run A most s m (most s.what) (λ limits. limits s.what) 0 (λ limits same. same)

-- ---- entries in round brackets

mark_next : (mark : ℕ) (left : List Tok) → is_fit (mark_fit mark (head left)) ≡ true → (more : List Tok) × (left ≡ MarkTok mark ∷ more)
mark_next mark [] e = absurd cc
mark_next mark (MarkTok c ∷ left) e = (left, ap (λ (b : ℕ). MarkTok b ∷ left) (eqb-true c mark (if_is _ e)))
mark_next mark (TextTok bytes ∷ left) e = absurd cc
mark_next mark (NumberTok bytes ∷ left) e = absurd cc
mark_next mark (NameTok bytes ∷ left) e = absurd cc
mark_next mark (BadTok ∷ left) e = absurd cc

pub head_next : (left : List Tok) (t : Tok) → head left ≡ Some t → (more : List Tok) × (left ≡ t ∷ more)
head_next [] t e = absurd cc
head_next (u ∷ left) t e = let same : u ≡ t = cc in (left, ap (λ (x : Tok). x ∷ left) same)

runs_entries : (A : Type 0) (e : ℕ → State → Read A) (what : ℕ) → Runs A e is_open (λ k room. entries_at e what k room)
unfolding entries_at
runs_entries A e what = record { full = λ k st x t read. entries_full e what k st x t read; more = λ k room st t. rw t refl; stop = λ k room st t. entries_stop e what k room st t }

full_is : (A : Type 0) (e : ℕ → State → Read A) (what k : ℕ) (st : State) (f : Fault) → is_open (head st.left) ≡ true → entries_at e what k zero st ≡ Err f → TooMany st.rule what ≡ f
unfolding entries_at
full_is A e what k st f t read = let too_many : Err (TooMany st.rule what) ≡ Err f = rw t at read in cc

single_upto : {A : Type 0} (L : ℕ → List Said → A → Type 0) (k : ℕ) (said : List Said) (v : A) → L k said v → upto L k (suc zero) said (v ∷ [])
unfolding many
single_upto L k said v l = ((said, [], l, refl, sym (append-nil said)), omega arith)

-- where its own limit is left aside, one entry may come past the last
extra_one : (what : ℕ) → suc zero ≡ zero + extra what what
extra_one what = rw (eqb_same what) refl
  where
    eqb_same : (n : ℕ) → eqb n n ≡ true
    eqb_same n = grind (arith, nat_tests)

-- entries of this kind, as a section has them
abbrev entries_of : {A : Type 0} → ℕ → (Limits → ℕ → List Said → A → Type 0) → (Limits → ℕ → State → Read A) → Series A
entries_of what says entry = record { what = what; says = says; entry = entry; run = λ limits k room. entries_at (entry limits) what k room; test = is_open }

-- each entry begins with an opening bracket
abbrev Opens : {A : Type 0} → (ℕ → List Said → A → Type 0) → Type 0
Opens {A} L = (k : ℕ) (said : List Said) (v : A) (more : List Tok) → L k said v → head (words said ++ more) ≡ Some (MarkTok 40)

entries_past : (A : Type 0) (most : Limits) (what : ℕ) → (1 < what) × (what < 10) → (says : Limits → ℕ → List Said → A → Type 0) (entry : Limits → ℕ → State → Read A) → ((k : ℕ) → ToldIn most (λ limits. says limits k) (λ limits. entry limits k)) → Opens (says most)
    → (k : ℕ) (room : Limits → ℕ) (st : State) (f : Fault) → ((limits : Limits) → limits what ≡ most what → room limits ≡ zero) → is_open (head st.left) ≡ true → entries_at (entry most) what k zero st ≡ Err f
    → Broken (List A) most (Ones (entries_of what says entry) most k zero) (More (entries_of what says entry) most k zero) (λ limits. entries_at (entry limits) what k (room limits)) st f
entries_past A most what few says entry told begins k room st f agree t read =
    let next = mark_next 40 st.left t in
    let some = (told k).some in
    let first = head_next (words some.0 ++ []) (MarkTok 40) (begins k some.0 some.1 [] some.2) in
    let larger = says (raised what most) in
    let one : upto larger k (zero + extra what what) some.0 (some.1 ∷ []) = subst (λ (n : ℕ). upto larger k n some.0 (some.1 ∷ [])) (extra_one what) (single_upto larger k some.0 some.1 ((told k).grow what some.0 some.1 some.2)) in
    let b : Broken (List A) most (Ones (entries_of what says entry) most k zero) (More (entries_of what says entry) most k zero) (λ limits. entries_at (entry limits) what k (room limits)) st (TooMany st.rule what) = record {
      used = [];
      rest = st.left;
      left = refl;
      front = inl (complete_said [] [] (says_none (says most) k zero));
      stop = λ limits s c left stopping.
          let open_too : is_open (head s.left) ≡ true = ap (λ (ts : List Tok). is_open (head ts)) left ∙ blind_same is_open (blind_mark 40) (head c) (head st.left) (past_like what (head c) (head st.left) stopping.0) ∙ t in
          let none : IsFault (entries_at (entry limits) what k zero s) = fault_not (entries_at (entry limits) what k zero s) (λ x read. entries_full (entry limits) what k s x open_too read) in
          fault_same (entries_at (entry limits) what k zero s) (entries_at (entry limits) what k (room limits) s) (ap (λ (n : ℕ). entries_at (entry limits) what k n s) (agree limits stopping.1)) none;
      kind = (MarkTok 40, next.0, MarkTok 40, next.1, refl, refl, (first.0, some.0, some.1 ∷ [], one, sym (append-nil (words some.0)) ∙ first.1), AtEntry few.0 few.1 refl);
    } in
    subst (λ (g : Fault). Broken (List A) most (Ones (entries_of what says entry) most k zero) (More (entries_of what says entry) most k zero) (λ limits. entries_at (entry limits) what k (room limits)) st g) (full_is A (entry most) what k st f t read) b

told_entries : (A : Type 0) (most : Limits) (what : ℕ) → (1 < what) × (what < 10) → (says : Limits → ℕ → List Said → A → Type 0) (entry : Limits → ℕ → State → Read A) → ((k : ℕ) → ToldIn most (λ limits. says limits k) (λ limits. entry limits k)) → Opens (says most)
    → ToldIn most (λ limits. at_most (limits what) (says limits)) (λ limits. entries_at (entry limits) what 0 (limits what))
told_entries A most what few says entry told begins =
    told_series A most (entries_of what says entry) (record { runs = λ limits. runs_entries A (entry limits) what; blind = blind_mark 40; told = told; past = entries_past A most what few says entry told begins })

-- ---- terms

runs_terms : Runs Term (λ k. mark_at 44 ▸ λ c. term_at) is_comma (λ k room. rest_terms room)
runs_terms = record { full = λ k st x t read. rest_full st x t read; more = λ k room st t. rest_more room st t; stop = λ k room st t. rw t refl }

blind_number : (t : Tok) → is_number (Some t) ≡ is_number (Some (kind_of t))
blind_number (MarkTok c) = refl
blind_number (TextTok bytes) = refl
blind_number (NumberTok bytes) = refl
blind_number (NameTok bytes) = refl
blind_number BadTok = refl

number_next : (left : List Tok) → is_number (head left) ≡ true → (bytes : List ℕ) × (more : List Tok) × (left ≡ NumberTok bytes ∷ more)
number_next [] e = absurd cc
number_next (MarkTok c ∷ left) e = absurd cc
number_next (TextTok bytes ∷ left) e = absurd cc
number_next (NumberTok bytes ∷ left) e = (bytes, left, refl)
number_next (NameTok bytes ∷ left) e = absurd cc
number_next (BadTok ∷ left) e = absurd cc

no_term : (left : List Tok) (uses : List Use) (rule : ℕ) → is_number (head left) ≡ false → IsFault (term_at (st_of left uses rule))
unfolding term_at number_at
no_term [] uses rule e = (_, refl)
no_term (MarkTok c ∷ left) uses rule e = (_, refl)
no_term (TextTok bytes ∷ left) uses rule e = (_, refl)
no_term (NumberTok bytes ∷ left) uses rule e = absurd cc
no_term (NameTok bytes ∷ left) uses rule e = (_, refl)
no_term (BadTok ∷ left) uses rule e = (_, refl)

no_comma_term : (left : List Tok) (uses : List Use) (rule : ℕ) → is_number (head left) ≡ false → IsFault ((mark_at 44 ▸ λ c. term_at) (st_of (MarkTok 44 ∷ left) uses rule))
unfolding ◌▸◌ mark_at
no_comma_term left uses rule e = no_term left uses rule e

no_rest : (room : ℕ) (left : List Tok) (uses : List Use) (rule : ℕ) → is_number (head left) ≡ false → IsFault (rest_terms room (st_of (MarkTok 44 ∷ left) uses rule))
no_rest zero left uses rule e = fault_not (rest_terms zero (st_of (MarkTok 44 ∷ left) uses rule)) (λ x read. rest_full (st_of (MarkTok 44 ∷ left) uses rule) x refl read)
no_rest (suc room) left uses rule e =
    fault_same _ (rest_terms (suc room) (st_of (MarkTok 44 ∷ left) uses rule)) (rest_more room (st_of (MarkTok 44 ∷ left) uses rule) refl) (fault_first ((mark_at 44 ▸ λ c. term_at) (st_of (MarkTok 44 ∷ left) uses rule)) _ (no_comma_term left uses rule e))

-- `0 X1`
some_term : List Said
some_term = plain (NumberTok nought) ∷ naming (NameTok (88 ∷ 49 ∷ [])) Mapped 1 ∷ []

says_term : term some_term (record { coefficient = pos 0; of_y = false; point = 1 })
unfolding ◌▹◌ done some_term
says_term = (pos 0, plain (NumberTok nought) ∷ [], naming (NameTok (88 ∷ 49 ∷ [])) Mapped 1 ∷ [], says_number 160000 small_bound, ((false, 1), naming (NameTok (88 ∷ 49 ∷ [])) Mapped 1 ∷ [], [], says_variable, (refl, refl), refl), refl)

says_comma_term : (k : ℕ) → comma_term k (plain (MarkTok 44) ∷ some_term) (record { coefficient = pos 0; of_y = false; point = 1 })
unfolding ◌▹◌ mark
says_comma_term k = (tt, plain (MarkTok 44) ∷ [], some_term, refl, says_term, refl)

-- a comma, and a comma and a coefficient, go on
comma_front : (k : ℕ) → Completes (upto comma_term k (suc zero)) (MarkTok 44 ∷ [])
unfolding some_term
comma_front k = (NumberTok nought ∷ NameTok (88 ∷ 49 ∷ []) ∷ [], plain (MarkTok 44) ∷ some_term, _, single_upto comma_term k (plain (MarkTok 44) ∷ some_term) _ (says_comma_term k), refl)

number_front : (k : ℕ) → Completes (upto comma_term k (suc zero)) (MarkTok 44 ∷ NumberTok nought ∷ [])
unfolding some_term
number_front k = (NameTok (88 ∷ 49 ∷ []) ∷ [], plain (MarkTok 44) ∷ some_term, _, single_upto comma_term k (plain (MarkTok 44) ∷ some_term) _ (says_comma_term k), refl)

past_is : (left : List Tok) (uses : List Use) (rule : ℕ) (f : Fault) → rest_terms zero (st_of (MarkTok 44 ∷ left) uses rule) ≡ Err f → cond (is_number (head left)) (TooMany rule 10) (Syntax (length left)) ≡ f
unfolding terms_at mark_at
past_is left uses rule f read = cc

at_comma : (room : ℕ) (s : State) (c : List Tok) → s.left ≡ MarkTok 44 ∷ c → rest_terms room s ≡ rest_terms room (st_of (MarkTok 44 ∷ c) s.uses s.rule)
at_comma room s c left = ap (λ (ts : List Tok). rest_terms room (st_of ts s.uses s.rule)) left

-- the terms behind the first of a row
abbrev comma_terms : Series Term
comma_terms = record { what = 10; says = λ limits. comma_term; entry = λ limits k. mark_at 44 ▸ λ c. term_at; run = λ limits k room. rest_terms room; test = is_comma }

terms_past_by : (most : Limits) (k : ℕ) (room : Limits → ℕ) (left : List Tok) (uses : List Use) (rule : ℕ) (f : Fault) (b : Bool) → ((limits : Limits) → limits 10 ≡ most 10 → room limits ≡ zero) → is_number (head left) ≡ b → cond b (TooMany rule 10) (Syntax (length left)) ≡ f
    → Broken (List Term) most (upto comma_term k zero) (More comma_terms most k zero) (λ limits. rest_terms (room limits)) (st_of (MarkTok 44 ∷ left) uses rule) f
terms_past_by most k room left uses rule f true agree t is =
    let next = number_next left t in
    let b : Broken (List Term) most (upto comma_term k zero) (More comma_terms most k zero) (λ limits. rest_terms (room limits)) (st_of (MarkTok 44 ∷ left) uses rule) (TooMany rule 10) = record {
      used = MarkTok 44 ∷ [];
      rest = left;
      left = refl;
      front = inr ([], refl, complete_said [] [] (says_none comma_term k zero), comma_front k);
      stop = λ limits s c here stopping.
          let none : IsFault (rest_terms zero (st_of (MarkTok 44 ∷ c) s.uses s.rule)) = fault_not (rest_terms zero (st_of (MarkTok 44 ∷ c) s.uses s.rule)) (λ x read. rest_full (st_of (MarkTok 44 ∷ c) s.uses s.rule) x refl read) in
          fault_same (rest_terms zero (st_of (MarkTok 44 ∷ c) s.uses s.rule)) (rest_terms (room limits) s) (at_comma (room limits) s c here ∙ ap (λ (n : ℕ). rest_terms n (st_of (MarkTok 44 ∷ c) s.uses s.rule)) (agree limits stopping.1)) none;
      kind = (NumberTok next.0, next.1, NumberTok nought, next.2, refl, refl, number_front k, AtTerm next.0 refl refl);
    } in
    subst (λ (g : Fault). Broken (List Term) most (upto comma_term k zero) (More comma_terms most k zero) (λ limits. rest_terms (room limits)) (st_of (MarkTok 44 ∷ left) uses rule) g) is b
terms_past_by most k room left uses rule f false agree t is =
    let b : Broken (List Term) most (upto comma_term k zero) (More comma_terms most k zero) (λ limits. rest_terms (room limits)) (st_of (MarkTok 44 ∷ left) uses rule) (Syntax (length left)) = record {
      used = MarkTok 44 ∷ [];
      rest = left;
      left = refl;
      front = inr ([], refl, complete_said [] [] (says_none comma_term k zero), comma_front k);
      stop = λ limits s c here like.
          fault_same (rest_terms (room limits) (st_of (MarkTok 44 ∷ c) s.uses s.rule)) (rest_terms (room limits) s) (at_comma (room limits) s c here) (no_rest (room limits) c s.uses s.rule (blind_same is_number blind_number (head c) (head left) like ∙ t));
      kind = refl;
    } in
    subst (λ (g : Fault). Broken (List Term) most (upto comma_term k zero) (More comma_terms most k zero) (λ limits. rest_terms (room limits)) (st_of (MarkTok 44 ∷ left) uses rule) g) is b

terms_past : (most : Limits) (k : ℕ) (room : Limits → ℕ) (st : State) (f : Fault) → ((limits : Limits) → limits 10 ≡ most 10 → room limits ≡ zero) → is_comma (head st.left) ≡ true → rest_terms zero st ≡ Err f → Broken (List Term) most (upto comma_term k zero) (More comma_terms most k zero) (λ limits. rest_terms (room limits)) st f
terms_past most k room st f agree t read =
    let next = mark_next 44 st.left t in
    let is : cond (is_number (head next.0)) (TooMany st.rule 10) (Syntax (length next.0)) ≡ f = past_is next.0 st.uses st.rule f (sym (at_comma zero st next.0 next.1) ∙ read) in
    subst (λ (ts : List Tok). Broken (List Term) most (upto comma_term k zero) (More comma_terms most k zero) (λ limits. rest_terms (room limits)) (st_of ts st.uses st.rule) f) (sym next.1)
    (terms_past_by most k room next.0 st.uses st.rule f (is_number (head next.0)) agree refl is)

told_rest : (most : Limits) → ToldIn most (λ limits. at_most (limits 10) comma_term) (λ limits. rest_terms (limits 10))
told_rest most = told_series Term most comma_terms (record { runs = λ limits. runs_terms; blind = blind_mark 44; told = λ k. then (told_mark 44) (λ c. told_term); past = terms_past most })

twin_terms : (most : Limits) → ToldIn most terms (λ limits. term_at ▸ λ t. rest_terms (limits 10) ▸ λ ts. pure (t ∷ ts))
twin_terms most = then told_term (λ t. then (told_rest most) (λ ts. ended (t ∷ ts)))

told_terms : (most : Limits) → ToldIn most terms (λ limits. terms_at (suc (limits 10)))
unfolding ◌▸◌ pure
told_terms most = told_same (twin_terms most) (λ st. terms_more (most 10) st) (λ limits st. terms_more (limits 10) st)

-- ---- rows and places

told_inner : (most : Limits) → ToldIn most (λ limits. either (done []) (terms limits)) inner_terms_in
unfolding inner_terms_in pure
told_inner most = by_next (λ o. is_fit (mark_fit 125 o)) (blind_mark 125) (ended []) (told_terms most)

told_row : (most : Limits) → ToldIn most row row_in
unfolding row_in
told_row most = then (told_mark 123) (λ a. then (told_inner most) (λ ts. then (told_mark 125) (λ b. ended ts)))

told_any_row : (most : Limits) → ToldIn most (λ limits. either (row limits) (done [])) any_row_in
unfolding any_row_in pure
told_any_row most = by_next (λ o. is_fit (mark_fit 123 o)) (blind_mark 123) (told_row most) (ended [])

abbrev Rows : Type 0
Rows = List Term × List Term

told_both : (most : Limits) → ToldIn {A = Rows} most (λ limits. row limits ▹ λ x. either (row limits) (done []) ▹ λ y. done (x, y)) (λ limits. row_in limits ▸ λ x. any_row_in limits ▸ λ y. pure (x, y))
told_both most = then (told_row most) (λ x. then (told_any_row most) (λ y. ended (x, y)))

told_rows : (most : Limits) → ToldIn {A = Rows} most rows rows_in
unfolding rows_in pure
told_rows most = by_next (λ o. is_fit (mark_fit 123 o)) (blind_mark 123) (told_both most) (ended ([], []))

told_place : (most : Limits) (before : ℕ) → ToldIn most (λ limits. place limits before) (λ limits. place_in limits before)
unfolding place_in
told_place most before = then told_coordinates (λ p. then (told_rows most) (λ r. then (told_mark 59) (λ c. ended (record { x = p.0; y = p.1; row_x = r.0; row_y = r.1 }))))

-- ---- sections

told_content : (most : Limits) (parts : Parts) (k : SectionKind) → ToldIn most (λ limits. content limits parts k) (λ limits. content_in limits parts k)
unfolding content_in
told_content most parts kind.Quality = then told_quality (λ x. ended (record parts { quality = Some x }))
told_content most parts kind.MapPoints = then (told_entries _ most 2 (omega arith, omega arith) (λ limits. map_point) (λ limits. map_point_at) told_map_point (λ k said v more l. coordinates_head _ said v more l)) (λ x. ended (record parts { points = Some x }))
told_content most parts kind.MapLines = then (told_entries _ most 3 (omega arith, omega arith) (λ limits. map_line) (λ limits. map_line_at) told_map_line map_line_head) (λ x. ended (record parts { lines = Some x }))
told_content most parts kind.NewPoints = then (told_entries _ most 4 (omega arith, omega arith) place place_in (told_place most) (λ k said v more l. coordinates_head _ said v more l)) (λ x. ended (record parts { new_points = Some x }))
told_content most parts kind.NewLines = then (told_entries _ most 5 (omega arith, omega arith) (λ limits. pair) (λ limits. pair_at) told_pair (λ k said v more l. ends_head _ Any Any said v more l)) (λ x. ended (record parts { new_lines = Some x }))
told_content most parts kind.FreeArea = then (told_entries _ most 6 (omega arith, omega arith) place place_in (told_place most) (λ k said v more l. coordinates_head _ said v more l)) (λ x. ended (record parts { area = Some x }))
told_content most parts kind.FreeArea2 = then (told_entries _ most 7 (omega arith, omega arith) place place_in (told_place most) (λ k said v more l. coordinates_head _ said v more l)) (λ x. ended (record parts { limit = Some x }))
told_content most parts kind.Elements = then (told_entries _ most 8 (omega arith, omega arith) (λ limits. element) (λ limits. element_at) told_element element_head) (λ x. ended (record parts { elements = Some x }))
told_content most parts kind.Orientations = then (told_entries _ most 9 (omega arith, omega arith) (λ limits. turn) (λ limits. turn_at) told_turn (λ k said v more l. mark_head _ 40 said v more l)) (λ x. ended (record parts { turns = Some x }))

-- any number of sections
unfoldable pub some_sections : Limits → Parts → List Said → Parts → Type 0
some_sections most parts said v = (count : ℕ) × sections most count parts said v

no_sections : (most : Limits) (parts : Parts) (said : List Said) (v : Parts) → done parts said v → some_sections most parts said v
unfolding some_sections sections
no_sections most parts said v l = (zero, l)

a_section : (most : Limits) (parts : Parts) (said : List Said) (v : Parts) → (section most parts ▹ some_sections most) said v → some_sections most parts said v
unfolding some_sections sections ◌▹◌
a_section most parts said v l = (suc l.4.0, (l.0, l.1, l.2, l.3, l.4.1, l.5))

says_sections : (most : Limits) (parts : Parts) → Says (some_sections most parts)
unfolding done
says_sections most parts = ([], parts, no_sections most parts [] parts (refl, refl))

sections_grow : (most : Limits) (what count : ℕ) (parts : Parts) (said : List Said) (v : Parts) → sections most count parts said v → sections (raised what most) count parts said v
unfolding sections
sections_grow most what zero parts said v l = l
sections_grow most what (suc count) parts said v l =
    grow_then (grow_then (λ s w k. k) (λ x. (told_content most parts x).grow what)) (λ x. sections_grow most what count x) said v l

unfit_section : (parts : Parts) (t : Tok) → is_unfit (section_fit parts (Some t)) ≡ is_unfit (section_fit parts (Some (kind_of t)))
unfit_section parts (MarkTok c) = refl
unfit_section parts (TextTok bytes) = refl
unfit_section parts (NumberTok bytes) = refl
unfit_section parts (NameTok bytes) = refl
unfit_section parts BadTok = refl

section_number : (parts : Parts) (o : Option Tok) → section_fit parts o ≡ NoNumber → ⊥
section_number parts None e = cc
section_number parts (Some (MarkTok c)) e = cc
section_number parts (Some (TextTok bytes)) e = cc
section_number parts (Some (NumberTok bytes)) e = cc
section_number parts (Some (NameTok bytes)) e = fresh_number (section_of bytes) e
  where
    chosen : (b : Bool) (s : SectionKind) → cond b Unfit (Fits s) ≡ NoNumber → ⊥
    chosen true s e = cc
    chosen false s e = cc

    fresh_number : (o : Option SectionKind) → fresh parts o ≡ NoNumber → ⊥
    fresh_number None e = cc
    fresh_number (Some s) e = chosen (has s parts) s e
section_number parts (Some BadTok) e = cc

-- sections that follow, where the rule doesn't end
abbrev Onward : Limits → ℕ → Parts → State → Read Parts
Onward most room parts = section_in most parts ▸ sections_in most room

abbrev SectionsTold : Limits → ℕ → Parts → Type 0
SectionsTold most room parts = ToldIn most (λ limits. some_sections limits parts) (λ limits. sections_in limits room parts)

section_gone : (most : Limits) (parts : Parts) (st : State) (k : SectionKind) (st1 : State) (v : Parts) (st2 : State) → section_word_at parts st ≡ Ok (k, st1) → content_in most parts k st1 ≡ Ok (v, st2) → Gone Parts (section most parts) (λ limits. section_in limits parts) st v st2
unfolding section_in
section_gone most parts st k st1 v st2 word read = gone_then (content most parts) (λ k limits. content_in limits parts k) st k st1 v st2 (gone_good (good_section_word parts) st k st1 word) ((told_content most parts k).ok st1 v st2 read)

section_broken : (most : Limits) (parts : Parts) (st : State) (k : SectionKind) (st1 : State) (f : Fault) → section_word_at parts st ≡ Ok (k, st1) → content_in most parts k st1 ≡ Err f → Broken Parts most (section most parts) (λ what. section (raised what most) parts) (λ limits. section_in limits parts) st f
unfolding section_in
section_broken most parts st k st1 f word read = broken_second (content most parts) (λ k what. content (raised what most) parts k) (λ k limits. content_in limits parts k) st k st1 f (λ what s w l. l) (gone_good (good_section_word parts) st k st1 word) ((told_content most parts k).err st1 f read)

opened_ok : (most : Limits) (parts : Parts) (st : State) (p : Parts × State) → section_in most parts st ≡ Ok p → (k : SectionKind × State) × (section_word_at parts st ≡ Ok k) × (content_in most parts k.0 k.1 ≡ Ok p)
unfolding section_in ◌▸◌
opened_ok most parts st p e = bind_ok (section_word_at parts st) (λ k. content_in most parts k.0 k.1) p e

opened_err : (most : Limits) (parts : Parts) (st : State) (f : Fault) → section_in most parts st ≡ Err f → (section_word_at parts st ≡ Err f) ⊎ ((k : SectionKind × State) × (section_word_at parts st ≡ Ok k) × (content_in most parts k.0 k.1 ≡ Err f))
unfolding section_in ◌▸◌
opened_err most parts st f e = bind_err (section_word_at parts st) (λ k. content_in most parts k.0 k.1) f e

word_fails : (limits : Limits) (room : ℕ) (parts : Parts) (s : State) → IsFault (judged (section_fit parts (head s.left)) s) → IsFault (Onward limits room parts s)
unfolding section_in section_word_at ◌▸◌
word_fails limits room parts s bad = fault_first _ (λ p. sections_in limits room p.0 p.1) (fault_first (judged (section_fit parts (head s.left)) s) (λ k. content_in limits parts k.0 k.1) bad)

word_is : (parts : Parts) (st : State) (f : Fault) → section_word_at parts st ≡ Err f → judged (section_fit parts (head st.left)) st ≡ Err f
unfolding section_word_at
word_is parts st f e = e

onward_ok : (most : Limits) (room : ℕ) (parts : Parts) → ((next : Parts) → SectionsTold most room next) → (st : State) (v : Parts) (st2 : State) → Onward most room parts st ≡ Ok (v, st2) → Gone Parts (section most parts ▹ some_sections most) (λ limits. Onward limits room parts) st v st2
unfolding ◌▸◌
onward_ok most room parts others st v st2 read =
    let b = bind_ok (section_in most parts st) (λ p. sections_in most room p.0 p.1) (v, st2) read in
    let w = opened_ok most parts st b.0 b.1 in
    gone_then (some_sections most) (λ p limits. sections_in limits room p) st b.0.0 b.0.1 v st2 (section_gone most parts st w.0.0 w.0.1 b.0.0 b.0.1 w.1 w.2) ((others b.0.0).ok b.0.1 v st2 b.2)

onward_err : (most : Limits) (room : ℕ) (parts : Parts) → ((next : Parts) → SectionsTold most room next) → (st : State) (f : Fault) → Onward most room parts st ≡ Err f → Broken Parts most (some_sections most parts) (λ what. some_sections (raised what most) parts) (λ limits. Onward limits room parts) st f
unfolding ◌▸◌
onward_err most room parts others st f read =
    elim (bind_err (section_in most parts st) (λ p. sections_in most room p.0 p.1) f read) [
      | inl bad ↦
          elim (opened_err most parts st f bad) [
            | inl word ↦
                let none = says_sections most parts in
                word_broken (section_fit parts) (λ limits. Onward limits room parts) (unfit_section parts) (complete_said none.0 none.1 none.2) (wants_none (section_fit parts) (section_number parts)) (λ limits. word_fails limits room parts) st f (word_is parts st f word)
            | inr on ↦
                broken_in st f (broken_first (λ p limits. sections_in limits room p) st f (says_sections most) (λ what. says_sections (raised what most)) (section_broken most parts st on.0.0 on.0.1 f on.1 on.2)) (a_section most parts) (λ what. a_section (raised what most) parts) (λ limits s like. inr refl)
          ]
      | inr on ↦
          let w = opened_ok most parts st on.0 on.1 in
          broken_in st f (broken_second (some_sections most) (λ p what. some_sections (raised what most) p) (λ p limits. sections_in limits room p) st on.0.0 on.0.1 f (λ what. grow_then (λ s w k. k) (λ x. (told_content most parts x).grow what)) (section_gone most parts st w.0.0 w.0.1 on.0.0 on.0.1 w.1 w.2) ((others on.0.0).err on.0.1 f on.2))
          (a_section most parts) (λ what. a_section (raised what most) parts) (λ limits s like. inr refl)
    ]

abbrev is_end : Option Tok → Bool
is_end o = is_fit (name_fit endrule_word o)

-- the parts that there are, or further sections
abbrev chosen : Bool → Limits → ℕ → Parts → State → Read Parts
chosen b most room parts st = cond b (pure parts st) (Onward most room parts st)

chosen_is : (most : Limits) (room : ℕ) (parts : Parts) (st : State) → sections_in most (suc room) parts st ≡ chosen (is_end (head st.left)) most room parts st
unfolding sections_in ◌▸◌ pure
chosen_is most room parts st = refl

chosen_ok : (most : Limits) (room : ℕ) (parts : Parts) → ((next : Parts) → SectionsTold most room next) → (b : Bool) (st : State) (v : Parts) (st2 : State) → chosen b most room parts st ≡ Ok (v, st2) → Gone Parts (some_sections most parts) (λ limits. chosen b limits room parts) st v st2
chosen_ok most room parts others true st v st2 read = gone_in st v st2 ((ended {most = most} parts).ok st v st2 read) (no_sections most parts) (λ limits s like. inr refl)
chosen_ok most room parts others false st v st2 read = gone_in st v st2 (onward_ok most room parts others st v st2 read) (a_section most parts) (λ limits s like. inr refl)

chosen_err : (most : Limits) (room : ℕ) (parts : Parts) → ((next : Parts) → SectionsTold most room next) → (b : Bool) (st : State) (f : Fault) → chosen b most room parts st ≡ Err f → Broken Parts most (some_sections most parts) (λ what. some_sections (raised what most) parts) (λ limits. chosen b limits room parts) st f
chosen_err most room parts others true st f read =
    broken_in st f ((ended {most = most} parts).err st f read) (no_sections most parts) (λ what. no_sections (raised what most) parts) (λ limits s like. inr refl)
chosen_err most room parts others false st f read = broken_in st f (onward_err most room parts others st f read) (λ s v l. l) (λ what s v l. l) (λ limits s like. inr refl)

chosen_like : (limits : Limits) (room : ℕ) (parts : Parts) (st s : State) → Like (head s.left) (head st.left) → sections_in limits (suc room) parts s ≡ chosen (is_end (head st.left)) limits room parts s
chosen_like limits room parts st s like = chosen_is limits room parts s ∙ ap (λ (b : Bool). chosen b limits room parts s) (blind_same is_end (blind_name endrule_word) (head s.left) (head st.left) like)

none_left : (most : Limits) (parts : Parts) (st : State) → sections_in most zero parts st ≡ pure parts st
unfolding sections_in pure
none_left most parts st = refl

told_sections : (most : Limits) (room : ℕ) (parts : Parts) → SectionsTold most room parts
unfolding some_sections
told_sections most zero parts =
    let end = ended {most = most} parts in
    record {
      some = says_sections most parts;
      grow = λ what said v l. (l.0, sections_grow most what l.0 parts said v l.1);
      ok = λ st v st2 read. gone_in st v st2 (end.ok st v st2 (sym (none_left most parts st) ∙ read)) (no_sections most parts) (λ limits s like. inr (none_left limits parts s));
      err = λ st f read. broken_in st f (end.err st f (sym (none_left most parts st) ∙ read)) (no_sections most parts) (λ what. no_sections (raised what most) parts) (λ limits s like. inr (none_left limits parts s));
    }
told_sections most (suc room) parts =
    record {
      some = says_sections most parts;
      grow = λ what said v l. (l.0, sections_grow most what l.0 parts said v l.1);
      ok = λ st v st2 read. gone_in st v st2 (chosen_ok most room parts (told_sections most room) (is_end (head st.left)) st v st2 (sym (chosen_is most room parts st) ∙ read)) (λ s w l. l) (λ limits s like. inr (chosen_like limits room parts st s like));
      err = λ st f read. broken_in st f (chosen_err most room parts (told_sections most room) (is_end (head st.left)) st f (sym (chosen_is most room parts st) ∙ read)) (λ s w l. l) (λ what s w l. l) (λ limits s like. inr (chosen_like limits room parts st s like));
    }

-- ---- the name of a rule

unfit_text : (t : Tok) → is_unfit (text_fit (Some t)) ≡ is_unfit (text_fit (Some (kind_of t)))
unfit_text (MarkTok c) = refl
unfit_text (TextTok bytes) = refl
unfit_text (NumberTok bytes) = refl
unfit_text (NameTok bytes) = refl
unfit_text BadTok = refl

text_number : (o : Option Tok) → text_fit o ≡ NoNumber → ⊥
text_number None e = cc
text_number (Some (MarkTok c)) e = cc
text_number (Some (TextTok bytes)) e = cc
text_number (Some (NumberTok bytes)) e = cc
text_number (Some (NameTok bytes)) e = cc
text_number (Some BadTok) e = cc

-- `""`
says_name : (most : Limits) → rule_name most (plain (TextTok []) ∷ []) []
unfolding rule_name text
says_name most = (refl, omega arith)

text_word : (said : List Said) (v : List ℕ) → text said v → said ≡ plain (TextTok v) ∷ []
unfolding text
text_word said v l = l

name_opened : (limits : Limits) (s : State) (v : List ℕ) (s2 : State) → text_at s ≡ Ok (v, s2) → name_in limits s ≡ short_name (ltb (limits 11) (length v)) (v, s2)
unfolding name_in
name_opened limits s v s2 e = ap (λ r. r >>= λ n. short_name (ltb (limits 11) (length n.0)) n) e

name_goes : (limits : Limits) (b : Bool) (s s2 : State) (v : List ℕ) (c : List Tok) → name_in limits s ≡ short_name b (v, s2) → s2.left ≡ c → IsFault (name_in limits s) ⊎ ((st : State) × (name_in limits s ≡ Ok (v, st)) × (st.left ≡ c))
name_goes limits true s s2 v c e left = inl (TooMany s2.rule 11, e)
name_goes limits false s s2 v c e left = inr (s2, e, left)

name_gone : (most : Limits) (st : State) (v : List ℕ) (st2 : State) → text_at st ≡ Ok (v, st2) → length v ≤ most 11 → Gone (List ℕ) (rule_name most) (λ limits. name_in limits) st v st2
unfolding rule_name
name_gone most st v st2 e short =
    let t = good_text.takes st v st2 e in
    record {
      said = t.0;
      says = (t.1, short);
      left = t.2;
      rule = ap (λ (s : State). s.rule) t.3;
      along = λ limits s c left like. name_goes limits (ltb (limits 11) (length v)) s (after s t.0 c) v c (name_opened limits s v (after s t.0 c) (good_text.again t.0 v s c t.1 tt left)) refl;
    }

name_long : (most : Limits) (b : Bool) (st : State) (v : List ℕ) (st1 : State) (f : Fault) → text_at st ≡ Ok (v, st1) → ltb (most 11) (length v) ≡ b → short_name b (v, st1) ≡ Err f → Broken (List ℕ) most (rule_name most) (λ what. rule_name (raised what most)) (λ limits. name_in limits) st f
name_long most false st v st1 f e long read = absurd cc
name_long most true st v st1 f e long read =
    let t = good_text.takes st v st1 e in
    let left : st.left ≡ TextTok v ∷ st1.left = t.2 ∙ ap (λ (s : List Said). words s ++ st1.left) (text_word t.0 v t.1) in
    let rule : st.rule ≡ st1.rule = sym (ap (λ (s : State). s.rule) t.3) in
    let too_many : TooMany st1.rule 11 ≡ f = cc in
    let is : TooMany st.rule 11 ≡ f = ap (λ (n : ℕ). TooMany n 11) rule ∙ too_many in
    let b : Broken (List ℕ) most (rule_name most) (λ what. rule_name (raised what most)) (λ limits. name_in limits) st (TooMany st.rule 11) = record {
      used = [];
      rest = st.left;
      left = refl;
      front = inl (complete_said (plain (TextTok []) ∷ []) [] (says_name most));
      stop = λ limits s c here stopping.
          let next = head_next s.left (TextTok v) (ap head here ∙ past_same 11 (head c) (head st.left) (omega arith) stopping.0 ∙ ap head left) in
          let read2 : text_at s ≡ Ok (v, after s t.0 next.0) = good_text.again t.0 v s next.0 t.1 tt (next.1 ∙ sym (ap (λ (x : List Said). words x ++ next.0) (text_word t.0 v t.1))) in
          let too : ltb (limits 11) (length v) ≡ true = ap (λ (n : ℕ). ltb n (length v)) stopping.1 ∙ long in
          (TooMany s.rule 11, name_opened limits s v (after s t.0 next.0) read2 ∙ ap (λ (x : Bool). short_name x (v, after s t.0 next.0)) too);
      kind = (TextTok v, st1.left, TextTok [], left, refl, refl, ([], plain (TextTok []) ∷ [], [], says_name (raised 11 most), refl), AtName v refl refl);
    } in
    subst (λ (g : Fault). Broken (List ℕ) most (rule_name most) (λ what. rule_name (raised what most)) (λ limits. name_in limits) st g) is b

name_parts : (most : Limits) (st : State) (p : List ℕ × State) → name_in most st ≡ Ok p → (text_at st ≡ Ok p) × (length p.0 ≤ most 11)
unfolding name_in
name_parts most st p e =
    let b = bind_ok (text_at st) (λ n. short_name (ltb (most 11) (length n.0)) n) p e in
    let k = named_takes (most 11) (ltb (most 11) (length b.0.0)) b.0 p refl b.2 in
    (b.1 ∙ ap (λ (q : List ℕ × State). Ok q) k.0, subst (λ (q : List ℕ × State). length q.0 ≤ most 11) k.0 k.1)

name_err : (most : Limits) (st : State) (f : Fault) → name_in most st ≡ Err f → (text_at st ≡ Err f) ⊎ ((p : List ℕ × State) × (text_at st ≡ Ok p) × (short_name (ltb (most 11) (length p.0)) p ≡ Err f))
unfolding name_in
name_err most st f e = bind_err (text_at st) (λ n. short_name (ltb (most 11) (length n.0)) n) f e

name_fails : (limits : Limits) (s : State) → IsFault (judged (text_fit (head s.left)) s) → IsFault (name_in limits s)
unfolding name_in text_at
name_fails limits s bad = fault_first (judged (text_fit (head s.left)) s) (λ n. short_name (ltb (limits 11) (length n.0)) n) bad

text_is : (st : State) (f : Fault) → text_at st ≡ Err f → judged (text_fit (head st.left)) st ≡ Err f
unfolding text_at
text_is st f e = e

name_grows : (most : Limits) (what : ℕ) (said : List Said) (v : List ℕ) → rule_name most said v → rule_name (raised what most) said v
unfolding rule_name
name_grows most what said v l = (l.0, and_more (length v) (most 11) (extra what 11) l.1)

told_rule_name : (most : Limits) → ToldIn most rule_name name_in
told_rule_name most =
    record {
      some = (plain (TextTok []) ∷ [], [], says_name most);
      grow = name_grows most;
      ok = λ st v st2 e. let p = name_parts most st (v, st2) e in name_gone most st v st2 p.0 p.1;
      err = λ st f e.
          elim (name_err most st f e) [
            | inl bad ↦ word_broken text_fit (λ limits. name_in limits) unfit_text (complete_said (plain (TextTok []) ∷ []) [] (says_name most)) (wants_none text_fit text_number) (λ limits. name_fails limits) st f (text_is st f bad)
            | inr on ↦ name_long most (ltb (most 11) (length on.0.0)) st on.0.0 on.0.1 f on.1 refl on.2
          ];
    }

-- ---- a rule

told_any_sections : (most : Limits) → ToldIn most any_sections (λ limits. sections_in limits 9 empty_parts)
unfolding any_sections some_sections
told_any_sections most = told_sections most 9 empty_parts

pub told_body : (most : Limits) → ToldIn most rule_said body_in
unfolding body_in
told_body most = then (told_name rule_word) (λ a. then (told_rule_name most) (λ bytes. then (told_any_sections most) (λ parts. then (told_name endrule_word) (λ b. ended (rule_of bytes parts)))))
