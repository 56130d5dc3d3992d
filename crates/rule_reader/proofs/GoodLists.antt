-- Readers of marks, rows and entries read just what the grammar says.
use Rattle.std.proofs.Common.{◌≡◌, ℕ, zero, suc, Bool, true, false, cond, List, ◌++◌, Option, Some, Ok, ℤ, refl, sym, ap, subst, ◌∙◌, append_assoc, inl, inr}
use Rattle.std.proofs.lemmas.Slice.Eq.{bytes_eq-Decides}
use Rattle.rule_reader.specs.declared.reader.Bound.{Bound}
use Rattle.rule_reader.specs.declared.reader.Bound.TheVariants.{First, Second, Mapped}
use Rattle.rule_reader.specs.declared.rule.Triple.{Triple}
use Rattle.rule_reader.specs.declared.rule.MapPoint.{MapPoint}
use Rattle.rule_reader.specs.declared.rule.MapLine.{MapLine}
use Rattle.rule_reader.specs.Words.{Tok, MarkTok, NumberTok, NameTok, head}
use Rattle.rule_reader.specs.Reading.{is_fit, mark_fit, name_fit, mark_at, name_at, unit_weights, triple_at, tolerance_at, del_word, del_at, marks_at, coordinates_at, map_point_at, ends_at, line_at, map_line_at, turn_at}
use Rattle.rule_reader.specs.Grammar.{Said, words, ◌▹◌, done, either, mark, name, number, triple, tolerance, del, marks, map_point, line, map_line, turn}
use Rattle.rule_reader.proofs.Good.{Good, Always, good_if, good_done, good_before, ◌▸◌, pure, seq, seq_before, ended, words_append}
use Rattle.rule_reader.proofs.GoodEntries.{good_mark, good_name, good_triple, good_coordinates, good_ends, good_three}

-- ---- what comes first

pub mark_head : {A : Type 0} (M : Unit {0} → List Said → A → Type 0) (b : ℕ) (said : List Said) (v : A) (more : List Tok) → (mark b ▹ M) said v → head (words said ++ more) ≡ Some (MarkTok b)
unfolding ◌▹◌ mark
mark_head M b said v more l = ap (λ (s : List Said). head (words s ++ more)) (l.5 ∙ ap (λ (f : List Said). f ++ l.2) l.3)

pub name_head : {A : Type 0} (M : Unit {0} → List Said → A → Type 0) (n : List ℕ) (said : List Said) (v : A) (more : List Tok) → (name n ▹ M) said v → head (words said ++ more) ≡ Some (NameTok n)
unfolding ◌▹◌ name
name_head M n said v more l = ap (λ (s : List Said). head (words s ++ more)) (l.5 ∙ ap (λ (f : List Said). f ++ l.2) l.3)

pub number_head : {A : Type 0} (M : ℤ → List Said → A → Type 0) (greatest : ℕ) (said : List Said) (v : A) (more : List Tok) → (number greatest ▹ M) said v → (bytes : List ℕ) × (head (words said ++ more) ≡ Some (NumberTok bytes))
unfolding ◌▹◌ number
number_head M greatest said v more l = (l.3.0, ap (λ (s : List Said). head (words s ++ more)) (l.5 ∙ ap (λ (f : List Said). f ++ l.2) l.3.1))

-- the first part of two comes first, however the whole is cut
pub then_head : {A B : Type 0} {L : List Said → A → Type 0} (M : A → List Said → B → Type 0) (P : Option Tok → Type 0) → ((said : List Said) (v : A) (more : List Tok) → L said v → P (head (words said ++ more))) → (said : List Said) (v : B) (more : List Tok) → (L ▹ M) said v → P (head (words said ++ more))
unfolding ◌▹◌
then_head M P first said v more l =
    let left : words said ++ more ≡ words l.1 ++ (words l.2 ++ more) = ap (λ (s : List Said). words s ++ more) l.5 ∙ ap (λ (ts : List Tok). ts ++ more) (words_append l.1 l.2) ∙ append_assoc (words l.1) (words l.2) more in
    subst (λ (ts : List Tok). P (head ts)) (sym left) (first l.1 l.0 (words l.2 ++ more) l.3)

done_head : {A : Type 0} (x : A) (said : List Said) (v : A) (more : List Tok) → done x said v → words said ++ more ≡ more
unfolding done
done_head x said v more l = ap (λ (s : List Said). words s ++ more) l.0

name_self : (n : List ℕ) → is_fit (name_fit n (Some (NameTok n))) ≡ true
name_self n = rw ((bytes_eq-Decides n n).1 refl) refl

-- this mark comes next, or another
abbrev pub AtMark : ℕ → List Tok → Type 0
AtMark b more = head more ≡ Some (MarkTok b)

abbrev pub NoMark : ℕ → List Tok → Type 0
NoMark b more = is_fit (mark_fit b (head more)) ≡ false

abbrev pub NoDel : List Tok → Type 0
NoDel more = is_fit (name_fit del_word (head more)) ≡ false

-- ---- marks

pub good_tolerance : Good Triple (NoMark 123) tolerance tolerance_at
unfolding tolerance_at
good_tolerance = good_if Triple (NoMark 123) triple (done unit_weights) (λ o. is_fit (mark_fit 123 o)) triple_at (λ st. Ok (unit_weights, st))
    (good_before Triple Always (NoMark 123) triple triple_at good_triple (λ more f. tt)) (good_before Triple Always (NoMark 123) (done unit_weights) (λ st. Ok (unit_weights, st)) (good_done Triple unit_weights) (λ more f. tt))
    (λ said v more l f. ap (λ o. is_fit (mark_fit 123 o)) (mark_head _ 123 said v more l))
    (λ said v more l f. ap (λ ts. is_fit (mark_fit 123 (head ts))) (done_head unit_weights said v more l) ∙ f)

twin_del : Good Bool NoDel (name del_word ▹ λ u. done true) (name_at del_word ▸ λ u. pure true)
twin_del = seq (good_name del_word) (λ u. good_before Bool Always NoDel (done true) (pure true) (ended true) (λ more f. tt))

pub good_del : Good Bool NoDel del del_at
unfolding del_at ◌▸◌ pure
good_del = good_if Bool NoDel (name del_word ▹ λ u. done true) (done false) (λ o. is_fit (name_fit del_word o)) (name_at del_word ▸ λ u. pure true) (λ st. Ok (false, st))
    twin_del (good_before Bool Always NoDel (done false) (λ st. Ok (false, st)) (good_done Bool false) (λ more f. tt))
    (λ said v more l f. ap (λ o. is_fit (name_fit del_word o)) (name_head _ del_word said v more l) ∙ name_self del_word)
    (λ said v more l f. ap (λ ts. is_fit (name_fit del_word (head ts))) (done_head false said v more l) ∙ f)

twin_del_first : Good (Triple × Bool) (AtMark 59) (name del_word ▹ λ u. tolerance ▹ λ tol. done (tol, true)) (name_at del_word ▸ λ u. tolerance_at ▸ λ tol. pure (tol, true))
twin_del_first = seq (good_name del_word) (λ u. seq_before good_tolerance (λ tol. good_before (Triple × Bool) Always (AtMark 59) (done (tol, true)) (pure (tol, true)) (ended (tol, true)) (λ more f. tt))
    (λ tol said y more m f. ap (λ ts. is_fit (mark_fit 123 (head ts))) (done_head (tol, true) said y more m) ∙ ap (λ o. is_fit (mark_fit 123 o)) f))

twin_triple_first : Good (Triple × Bool) (AtMark 59) (triple ▹ λ tol. del ▹ λ d. done (tol, d)) (triple_at ▸ λ tol. del_at ▸ λ d. pure (tol, d))
twin_triple_first = seq good_triple (λ tol. seq_before good_del (λ d. good_before (Triple × Bool) Always (AtMark 59) (done (tol, d)) (pure (tol, d)) (ended (tol, d)) (λ more f. tt))
    (λ d said y more m f. ap (λ ts. is_fit (name_fit del_word (head ts))) (done_head (tol, d) said y more m) ∙ ap (λ o. is_fit (name_fit del_word o)) f))

abbrev no_marks : Triple × Bool
no_marks = (unit_weights, false)

good_undel : Good (Triple × Bool) (AtMark 59) (either (triple ▹ λ tol. del ▹ λ d. done (tol, d)) (done no_marks)) (λ st. cond (is_fit (mark_fit 123 (head st.left))) ((triple_at ▸ λ tol. del_at ▸ λ d. pure (tol, d)) st) (Ok (no_marks, st)))
good_undel = good_if (Triple × Bool) (AtMark 59) (triple ▹ λ tol. del ▹ λ d. done (tol, d)) (done no_marks) (λ o. is_fit (mark_fit 123 o)) (triple_at ▸ λ tol. del_at ▸ λ d. pure (tol, d)) (λ st. Ok (no_marks, st))
    twin_triple_first (good_before (Triple × Bool) Always (AtMark 59) (done no_marks) (λ st. Ok (no_marks, st)) (good_done (Triple × Bool) no_marks) (λ more f. tt))
    (λ said v more l f. ap (λ o. is_fit (mark_fit 123 o)) (then_head _ (λ o. o ≡ Some (MarkTok 123)) (λ s w m k. mark_head _ 123 s w m k) said v more l))
    (λ said v more l f. ap (λ ts. is_fit (mark_fit 123 (head ts))) (done_head no_marks said v more l) ∙ ap (λ o. is_fit (mark_fit 123 o)) f)

-- behind no `del` there is a curly bracket or a semicolon
undel_head : (said : List Said) (v : Triple × Bool) (more : List Tok) → either (triple ▹ λ tol. del ▹ λ d. done (tol, d)) (done no_marks) said v → AtMark 59 more → is_fit (name_fit del_word (head (words said ++ more))) ≡ false
unfolding either
undel_head said v more (inl l) f = ap (λ o. is_fit (name_fit del_word o)) (then_head _ (λ o. o ≡ Some (MarkTok 123)) (λ s w m k. mark_head _ 123 s w m k) said v more l)
undel_head said v more (inr l) f = ap (λ ts. is_fit (name_fit del_word (head ts))) (done_head no_marks said v more l) ∙ ap (λ o. is_fit (name_fit del_word o)) f

pub good_marks : Good (Triple × Bool) (AtMark 59) marks marks_at
unfolding marks_at ◌▸◌ pure
good_marks = good_if (Triple × Bool) (AtMark 59) (name del_word ▹ λ u. tolerance ▹ λ tol. done (tol, true)) (either (triple ▹ λ tol. del ▹ λ d. done (tol, d)) (done no_marks)) (λ o. is_fit (name_fit del_word o))
    (name_at del_word ▸ λ u. tolerance_at ▸ λ tol. pure (tol, true)) (λ st. cond (is_fit (mark_fit 123 (head st.left))) ((triple_at ▸ λ tol. del_at ▸ λ d. pure (tol, d)) st) (Ok (no_marks, st)))
    twin_del_first good_undel
    (λ said v more l f. ap (λ o. is_fit (name_fit del_word o)) (name_head _ del_word said v more l) ∙ name_self del_word)
    undel_head

twin_map_point : (before : ℕ) → Good MapPoint Always (map_point before) (coordinates_at ▸ λ p. marks_at ▸ λ m. mark_at 59 ▸ λ c. pure (record { x = p.0; y = p.1; tol = m.0 }))
twin_map_point before = seq good_coordinates (λ p. seq_before good_marks (λ m. seq (good_mark 59) (λ c. ended (record { x = p.0; y = p.1; tol = m.0 }))) (λ m said y more k f. mark_head _ 59 said y more k))

pub good_map_point : (before : ℕ) → Good MapPoint Always (map_point before) (map_point_at before)
unfolding map_point_at ◌▸◌ pure
good_map_point before = twin_map_point before

twin_line : (first second : Bound) → Good MapLine Always (line first second) (ends_at first second ▸ λ e. marks_at ▸ λ m. mark_at 59 ▸ λ c. pure (record { i = e.0; j = e.1; tol = m.0; del = m.1 }))
twin_line first second = seq (good_ends first second) (λ e. seq_before good_marks (λ m. seq (good_mark 59) (λ c. ended (record { i = e.0; j = e.1; tol = m.0; del = m.1 }))) (λ m said y more k f. mark_head _ 59 said y more k))

good_line : (first second : Bound) → Good MapLine Always (line first second) (line_at first second)
unfolding line_at ◌▸◌ pure
good_line first second = twin_line first second

pub good_map_line : (before : ℕ) → Good MapLine Always (map_line before) (map_line_at before)
good_map_line zero = good_line First Second
good_map_line (suc before) = good_line Mapped Mapped

pub good_turn : (before : ℕ) → Good (ℕ × ℕ × ℕ) Always (turn before) (turn_at before)
good_turn before = good_three Mapped
