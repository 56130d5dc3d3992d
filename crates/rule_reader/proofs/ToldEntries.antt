-- Where the readers of words and entries fail.
use Rattle.std.proofs.Common.{◌≡◌, ℕ, zero, suc, Bool, true, false, cond, eqb, List, [], ◌∷◌, length, Option, Some, None, Err, ℤ, pos, refl, sym, ap, subst, ◌∙◌, inl, inr, arith}
use Rattle.std.specs.Str.{bytes_eq}
use Rattle.std.proofs.lemmas.Slice.Eq.{bytes_eq-Decides}
use Rattle.word_scan.specs.Numerals.{whole_of}
use Rattle.word_scan.specs.Decimals.{decimal_of}
use Rattle.rule_reader.specs.declared.fault.Fault.{Fault}
use Rattle.rule_reader.specs.declared.reader.Fit.{Fit}
use Rattle.rule_reader.specs.declared.reader.Fit.TheVariants.{Fits, Unfit, NoNumber}
use Rattle.rule_reader.specs.declared.reader.Bound.{Bound}
use Rattle.rule_reader.specs.declared.reader.Bound.TheVariants.{First, Second, Mapped, Any}
use Rattle.rule_reader.specs.declared.reader.Use.{Use}
use Rattle.rule_reader.specs.declared.rule.Triple.{Triple}
use Rattle.rule_reader.specs.declared.rule.MapPoint.{MapPoint}
use Rattle.rule_reader.specs.declared.rule.MapLine.{MapLine}
use Rattle.rule_reader.specs.declared.rule.Term.{Term}
use Rattle.rule_reader.specs.Words.{Tok, MarkTok, TextTok, NumberTok, NameTok, BadTok, State, head}
use Rattle.rule_reader.specs.Numbers.{number_of}
use Rattle.rule_reader.specs.Reading.{Read, ◌>>=◌, judged, is_fit, fit_if, fit_number, mark_fit, name_fit, number_fit, whole_fit, variable_rest, indexed, variable_fit, variable_behind, variable_at, term_at, mark_at, name_at, number_at, quality_at, index_at, unit_weights, del_word, triple_at, tolerance_at, del_at, marks_at, coordinates_at, map_point_at, ends_at, line_at, map_line_at, three_at, pair_at, element_at, turn_at}
use Rattle.rule_reader.specs.Grammar.{Limits, Said, plain, naming, ◌▹◌, done, either, mark, name, number, quality, index, letter, joined_variable, parted_variable, variable, triple, tolerance, del, marks, coordinates, map_point, ends, line, map_line, term, three, pair, element, turn}
use Rattle.rule_reader.specs.Refusals.{kind_of}
use Rattle.rule_reader.proofs.Good.{◌▸◌, pure, judged_ok}
use Rattle.rule_reader.proofs.GoodEntries.{good_mark, good_name, good_number, good_quality, good_index, good_variable, letter_is, parted_fits, fits_is, st_of}
use Rattle.rule_reader.proofs.Told.{blind_same, bind_err, fault_first, Broken, Told, Wants, is_unfit, word_broken, complete_said, one_word, gone_good, broken_in, then, by_next}
use Rattle.rule_reader.proofs.Told.{ends as ended}

-- a reader that reads the same within all limits
abbrev pub Single : (A : Type 0) → Limits → (List Said → A → Type 0) → (State → Read A) → Type 0
Single A most L p = Told A most L (λ what. L) p (λ limits. p)

-- ---- words of one kind

pub unfit_mark : (b : ℕ) (t : Tok) → is_unfit (mark_fit b (Some t)) ≡ is_unfit (mark_fit b (Some (kind_of t)))
unfit_mark b (MarkTok c) = refl
unfit_mark b (TextTok bytes) = refl
unfit_mark b (NumberTok bytes) = refl
unfit_mark b (NameTok bytes) = refl
unfit_mark b BadTok = refl

pub unfit_name : (n : List ℕ) (t : Tok) → is_unfit (name_fit n (Some t)) ≡ is_unfit (name_fit n (Some (kind_of t)))
unfit_name n (MarkTok c) = refl
unfit_name n (TextTok bytes) = refl
unfit_name n (NumberTok bytes) = refl
unfit_name n (NameTok bytes) = refl
unfit_name n BadTok = refl

pub blind_mark : (b : ℕ) (t : Tok) → is_fit (mark_fit b (Some t)) ≡ is_fit (mark_fit b (Some (kind_of t)))
blind_mark b (MarkTok c) = refl
blind_mark b (TextTok bytes) = refl
blind_mark b (NumberTok bytes) = refl
blind_mark b (NameTok bytes) = refl
blind_mark b BadTok = refl

pub blind_name : (n : List ℕ) (t : Tok) → is_fit (name_fit n (Some t)) ≡ is_fit (name_fit n (Some (kind_of t)))
blind_name n (MarkTok c) = refl
blind_name n (TextTok bytes) = refl
blind_name n (NumberTok bytes) = refl
blind_name n (NameTok bytes) = refl
blind_name n BadTok = refl

number_fits : {A : Type 0} (o : Option A) → is_unfit (fit_number o) ≡ false
number_fits None = refl
number_fits (Some n) = refl

unfit_number : (greatest : ℕ) (t : Tok) → is_unfit (number_fit greatest (Some t)) ≡ is_unfit (number_fit greatest (Some (kind_of t)))
unfit_number greatest (MarkTok c) = refl
unfit_number greatest (TextTok bytes) = refl
unfit_number greatest (NumberTok bytes) = number_fits (number_of greatest bytes) ∙ sym (number_fits (number_of greatest []))
unfit_number greatest (NameTok bytes) = refl
unfit_number greatest BadTok = refl

unfit_whole : (greatest : ℕ) (t : Tok) → is_unfit (whole_fit greatest (Some t)) ≡ is_unfit (whole_fit greatest (Some (kind_of t)))
unfit_whole greatest (MarkTok c) = refl
unfit_whole greatest (TextTok bytes) = refl
unfit_whole greatest (NumberTok bytes) = number_fits (whole_of bytes greatest) ∙ sym (number_fits (whole_of [] greatest))
unfit_whole greatest (NameTok bytes) = refl
unfit_whole greatest BadTok = refl

unfit_variable : (t : Tok) → is_unfit (variable_fit (Some t)) ≡ is_unfit (variable_fit (Some (kind_of t)))
unfit_variable (MarkTok c) = refl
unfit_variable (TextTok bytes) = refl
unfit_variable (NumberTok bytes) = refl
unfit_variable (NameTok bytes) = refl
unfit_variable BadTok = refl

-- where no number is wanted
pub wants_none : {A B : Type 0} {L : List Said → B → Type 0} (fit : Option Tok → Fit A) → ((o : Option Tok) → fit o ≡ NoNumber → ⊥) → Wants fit L
wants_none fit none left e = absurd (none (head left) e)

if_number : (b : Bool) → fit_if b ≡ NoNumber → ⊥
if_number true e = cc
if_number false e = cc

mark_number : (b : ℕ) (o : Option Tok) → mark_fit b o ≡ NoNumber → ⊥
mark_number b None e = cc
mark_number b (Some (MarkTok c)) e = if_number (eqb c b) e
mark_number b (Some (TextTok bytes)) e = cc
mark_number b (Some (NumberTok bytes)) e = cc
mark_number b (Some (NameTok bytes)) e = cc
mark_number b (Some BadTok) e = cc

name_number : (n : List ℕ) (o : Option Tok) → name_fit n o ≡ NoNumber → ⊥
name_number n None e = cc
name_number n (Some (MarkTok c)) e = cc
name_number n (Some (TextTok bytes)) e = cc
name_number n (Some (NumberTok bytes)) e = cc
name_number n (Some (NameTok bytes)) e = if_number (bytes_eq bytes n) e
name_number n (Some BadTok) e = cc

-- ---- single words

pub told_mark : {most : Limits} (b : ℕ) → Single (Unit {0}) most (mark b) (mark_at b)
unfolding mark mark_at
told_mark b = one_word (mark_fit b) (good_mark b) (plain (MarkTok b) ∷ [], tt, refl) (unfit_mark b) (wants_none (mark_fit b) (mark_number b))

pub told_name : {most : Limits} (n : List ℕ) → Single (Unit {0}) most (name n) (name_at n)
unfolding name name_at
told_name n = one_word (name_fit n) (good_name n) (plain (NameTok n) ∷ [], tt, refl) (unfit_name n) (wants_none (name_fit n) (name_number n))

-- `0` and `1`
pub nought : List ℕ
nought = 48 ∷ []

pub one : List ℕ
one = 49 ∷ []

-- a number that is within all bounds
abbrev pub Bounded : ℕ → Type 0
Bounded greatest = number_of greatest nought ≡ Some (pos 0)

pub small_bound : Bounded 160000
unfolding number_of decimal_of nought
small_bound = refl

pub great_bound : Bounded 10000000
unfolding number_of decimal_of nought
great_bound = refl

one_quality : whole_of one 1000 ≡ Some 1
unfolding one
one_quality = refl

one_index : whole_of one 9999 ≡ Some 1
unfolding one
one_index = refl

pub says_number : (greatest : ℕ) → Bounded greatest → number greatest (plain (NumberTok nought) ∷ []) (pos 0)
unfolding number
says_number greatest bound = (nought, refl, bound)

wants_number : (greatest : ℕ) → Bounded greatest → Wants (number_fit greatest) (number greatest)
wants_number greatest bound [] e = absurd cc
wants_number greatest bound (MarkTok c ∷ left) e = absurd cc
wants_number greatest bound (TextTok bytes ∷ left) e = absurd cc
wants_number greatest bound (NumberTok bytes ∷ left) e = (bytes, left, nought, refl, ([], plain (NumberTok nought) ∷ [], pos 0, says_number greatest bound, refl))
wants_number greatest bound (NameTok bytes ∷ left) e = absurd cc
wants_number greatest bound (BadTok ∷ left) e = absurd cc

pub told_number : {most : Limits} (greatest : ℕ) → Bounded greatest → Single ℤ most (number greatest) (number_at greatest)
unfolding number_at
told_number greatest bound = one_word (number_fit greatest) (good_number greatest) (plain (NumberTok nought) ∷ [], pos 0, says_number greatest bound) (unfit_number greatest) (wants_number greatest bound)

pub says_quality : quality (plain (NumberTok one) ∷ []) 1
unfolding quality
says_quality = (one, refl, one_quality)

pub says_index : (bound : Bound) → index bound (naming (NumberTok one) bound 1 ∷ []) 1
unfolding index
says_index bound = (one, refl, one_index)

wants_whole : {B : Type 0} (greatest : ℕ) (L : List Said → B → Type 0) (s : Said) (v : B) → s.word ≡ NumberTok one → L (s ∷ []) v → Wants (whole_fit greatest) L
wants_whole greatest L s v w l [] e = absurd cc
wants_whole greatest L s v w l (MarkTok c ∷ left) e = absurd cc
wants_whole greatest L s v w l (TextTok bytes ∷ left) e = absurd cc
wants_whole greatest L s v w l (NumberTok bytes ∷ left) e = (bytes, left, one, refl, ([], s ∷ [], v, l, ap (λ (t : Tok). t ∷ []) w))
wants_whole greatest L s v w l (NameTok bytes ∷ left) e = absurd cc
wants_whole greatest L s v w l (BadTok ∷ left) e = absurd cc

pub told_quality : {most : Limits} → Single ℕ most quality quality_at
unfolding quality_at
told_quality = one_word (whole_fit 1000) good_quality (plain (NumberTok one) ∷ [], 1, says_quality) (unfit_whole 1000) (wants_whole 1000 quality (plain (NumberTok one)) 1 refl says_quality)

pub told_index : {most : Limits} (bound : Bound) → Single ℕ most (index bound) (index_at bound)
unfolding index_at
told_index bound =
    let said : List Said = naming (NumberTok one) bound 1 ∷ [] in
    record {
      some = (said, 1, says_index bound);
      grow = λ what s v l. l;
      ok = gone_good (good_index bound);
      err = λ st f e.
          elim (bind_err (judged (whole_fit 9999 (head st.left)) st) _ f e) [
            | inl bad ↦ word_broken (whole_fit 9999) (λ limits. index_at bound) (unfit_whole 9999) (complete_said said 1 (says_index bound)) (wants_whole 9999 (index bound) (naming (NumberTok one) bound 1) 1 refl (says_index bound)) (λ limits s fails. fault_first (judged (whole_fit 9999 (head s.left)) s) _ fails) st f bad
            | inr on ↦ absurd cc
          ];
    }

-- ---- fixed sequences

twin_coordinates : {most : Limits} → Single (ℤ × ℤ) most coordinates (mark_at 40 ▸ λ a. number_at 160000 ▸ λ x. mark_at 44 ▸ λ b. number_at 160000 ▸ λ y. mark_at 41 ▸ λ c. pure (x, y))
twin_coordinates = then (told_mark 40) (λ a. then (told_number 160000 small_bound) (λ x. then (told_mark 44) (λ b. then (told_number 160000 small_bound) (λ y. then (told_mark 41) (λ c. ended (x, y))))))

pub told_coordinates : {most : Limits} → Single (ℤ × ℤ) most coordinates coordinates_at
unfolding coordinates_at ◌▸◌ pure
told_coordinates = twin_coordinates

twin_triple : {most : Limits} → Single Triple most triple (mark_at 123 ▸ λ a. number_at 10000000 ▸ λ f1. mark_at 44 ▸ λ b. number_at 10000000 ▸ λ f2. mark_at 44 ▸ λ c. number_at 10000000 ▸ λ f3. mark_at 125 ▸ λ d. pure (record { f1 = f1; f2 = f2; f3 = f3 }))
twin_triple = then (told_mark 123) (λ a. then (told_number 10000000 great_bound) (λ f1. then (told_mark 44) (λ b. then (told_number 10000000 great_bound) (λ f2. then (told_mark 44) (λ c. then (told_number 10000000 great_bound) (λ f3. then (told_mark 125) (λ d. ended (record { f1 = f1; f2 = f2; f3 = f3 }))))))))

told_triple : {most : Limits} → Single Triple most triple triple_at
unfolding triple_at ◌▸◌ pure
told_triple = twin_triple

twin_ends : {most : Limits} (first second : Bound) → Single (ℕ × ℕ) most (ends first second) (mark_at 40 ▸ λ a. index_at first ▸ λ i. mark_at 44 ▸ λ b. index_at second ▸ λ j. mark_at 41 ▸ λ c. pure (i, j))
twin_ends first second = then (told_mark 40) (λ a. then (told_index first) (λ i. then (told_mark 44) (λ b. then (told_index second) (λ j. then (told_mark 41) (λ c. ended (i, j))))))

told_ends : {most : Limits} (first second : Bound) → Single (ℕ × ℕ) most (ends first second) (ends_at first second)
unfolding ends_at ◌▸◌ pure
told_ends first second = twin_ends first second

twin_three : {most : Limits} (bound : Bound) → Single (ℕ × ℕ × ℕ) most (three bound) (mark_at 40 ▸ λ a. index_at bound ▸ λ i. mark_at 44 ▸ λ b. index_at bound ▸ λ j. mark_at 44 ▸ λ c. index_at bound ▸ λ k. mark_at 41 ▸ λ d. mark_at 59 ▸ λ e. pure (i, j, k))
twin_three bound = then (told_mark 40) (λ a. then (told_index bound) (λ i. then (told_mark 44) (λ b. then (told_index bound) (λ j. then (told_mark 44) (λ c. then (told_index bound) (λ k. then (told_mark 41) (λ d. then (told_mark 59) (λ e. ended (i, j, k)))))))))

told_three : {most : Limits} (bound : Bound) → Single (ℕ × ℕ × ℕ) most (three bound) (three_at bound)
unfolding three_at ◌▸◌ pure
told_three bound = twin_three bound

pub told_turn : {most : Limits} (before : ℕ) → Single (ℕ × ℕ × ℕ) most (turn before) (turn_at before)
told_turn before = told_three Mapped

twin_pair : {most : Limits} (before : ℕ) → Single (ℕ × ℕ) most (pair before) (ends_at Any Any ▸ λ e. mark_at 59 ▸ λ c. pure e)
twin_pair before = then (told_ends Any Any) (λ e. then (told_mark 59) (λ c. ended e))

pub told_pair : {most : Limits} (before : ℕ) → Single (ℕ × ℕ) most (pair before) (pair_at before)
unfolding pair_at ◌▸◌ pure
told_pair before = twin_pair before

twin_element : {most : Limits} (before : ℕ) → Single (List ℕ) most (element before) (three_at Any ▸ λ t. pure (t.0 ∷ t.1 ∷ t.2 ∷ []))
twin_element before = then (told_three Any) (λ t. ended (t.0 ∷ t.1 ∷ t.2 ∷ []))

pub told_element : {most : Limits} (before : ℕ) → Single (List ℕ) most (element before) (element_at before)
unfolding element_at ◌▸◌ pure
told_element before = twin_element before

-- ---- marks

told_tolerance : {most : Limits} → Single Triple most tolerance tolerance_at
unfolding tolerance_at pure
told_tolerance = by_next (λ o. is_fit (mark_fit 123 o)) (blind_mark 123) told_triple (ended unit_weights)

told_del : {most : Limits} → Single Bool most del del_at
unfolding del_at ◌▸◌ pure
told_del = by_next (λ o. is_fit (name_fit del_word o)) (blind_name del_word) twin (ended false)
  where
    twin : {most : Limits} → Single Bool most (name del_word ▹ λ u. done true) (name_at del_word ▸ λ u. pure true)
    twin = then (told_name del_word) (λ u. ended true)

twin_marks : {most : Limits} → Single (Triple × Bool) most marks
    (λ st. cond (is_fit (name_fit del_word (head st.left))) ((name_at del_word ▸ λ u. tolerance_at ▸ λ tol. pure (tol, true)) st) (cond (is_fit (mark_fit 123 (head st.left))) ((triple_at ▸ λ tol. del_at ▸ λ d. pure (tol, d)) st) (pure (unit_weights, false) st)))
twin_marks = by_next (λ o. is_fit (name_fit del_word o)) (blind_name del_word)
    (then (told_name del_word) (λ u. then told_tolerance (λ tol. ended (tol, true))))
    (by_next (λ o. is_fit (mark_fit 123 o)) (blind_mark 123) (then told_triple (λ tol. then told_del (λ d. ended (tol, d)))) (ended (unit_weights, false)))

told_marks : {most : Limits} → Single (Triple × Bool) most marks marks_at
unfolding marks_at ◌▸◌ pure
told_marks = twin_marks

twin_map_point : {most : Limits} (before : ℕ) → Single MapPoint most (map_point before) (coordinates_at ▸ λ p. marks_at ▸ λ m. mark_at 59 ▸ λ c. pure (record { x = p.0; y = p.1; tol = m.0 }))
twin_map_point before = then told_coordinates (λ p. then told_marks (λ m. then (told_mark 59) (λ c. ended (record { x = p.0; y = p.1; tol = m.0 }))))

pub told_map_point : {most : Limits} (before : ℕ) → Single MapPoint most (map_point before) (map_point_at before)
unfolding map_point_at ◌▸◌ pure
told_map_point before = twin_map_point before

twin_line : {most : Limits} (first second : Bound) → Single MapLine most (line first second) (ends_at first second ▸ λ e. marks_at ▸ λ m. mark_at 59 ▸ λ c. pure (record { i = e.0; j = e.1; tol = m.0; del = m.1 }))
twin_line first second = then (told_ends first second) (λ e. then told_marks (λ m. then (told_mark 59) (λ c. ended (record { i = e.0; j = e.1; tol = m.0; del = m.1 }))))

told_line : {most : Limits} (first second : Bound) → Single MapLine most (line first second) (line_at first second)
unfolding line_at ◌▸◌ pure
told_line first second = twin_line first second

pub told_map_line : {most : Limits} (before : ℕ) → Single MapLine most (map_line before) (map_line_at before)
told_map_line zero = told_line First Second
told_map_line (suc before) = told_line Mapped Mapped

-- ---- variables

abbrev is_letter : Bool → Option Tok → Bool
is_letter of_y o = is_fit (name_fit (letter of_y ∷ []) o)

abbrev parted_at : Bool → State → Read (Bool × ℕ)
parted_at of_y = name_at (letter of_y ∷ []) ▸ λ u. index_at Mapped ▸ λ n. pure (of_y, n)

told_parted : {most : Limits} (of_y : Bool) → Single (Bool × ℕ) most (parted_variable of_y) (parted_at of_y)
told_parted of_y = then (told_name (letter of_y ∷ [])) (λ u. then (told_index Mapped) (λ n. ended (of_y, n)))

says_joined : joined_variable (naming (NameTok (88 ∷ 49 ∷ [])) Mapped 1 ∷ []) (false, 1)
unfolding joined_variable
says_joined = (49 ∷ [], omega arith, refl, refl)

pub says_variable : variable (naming (NameTok (88 ∷ 49 ∷ [])) Mapped 1 ∷ []) (false, 1)
unfolding either
says_variable = inl says_joined

pub if_is : (b : Bool) → is_fit (fit_if b) ≡ true → b ≡ true
if_is true e = refl
if_is false e = absurd cc

letter_name : (of_y : Bool) (left : List Tok) (uses : List Use) (rule : ℕ) → variable_at (st_of (NameTok (letter of_y ∷ []) ∷ left) uses rule) ≡ parted_at of_y (st_of (NameTok (letter of_y ∷ []) ∷ left) uses rule)
unfolding variable_at name_at ◌▸◌ pure
letter_name of_y left uses rule = rw (parted_fits of_y, (bytes_eq-Decides (letter of_y ∷ []) (letter of_y ∷ [])).1 refl) refl

letter_same : (of_y : Bool) (left : List Tok) (uses : List Use) (rule : ℕ) → is_letter of_y (head left) ≡ true → variable_at (st_of left uses rule) ≡ parted_at of_y (st_of left uses rule)
letter_same of_y [] uses rule e = absurd cc
letter_same of_y (MarkTok c ∷ left) uses rule e = absurd cc
letter_same of_y (TextTok bytes ∷ left) uses rule e = absurd cc
letter_same of_y (NumberTok bytes ∷ left) uses rule e = absurd cc
letter_same of_y (NameTok bytes ∷ left) uses rule e =
    let same : bytes ≡ letter of_y ∷ [] = (bytes_eq-Decides bytes (letter of_y ∷ [])).0 (if_is (bytes_eq bytes (letter of_y ∷ [])) e) in
    subst (λ (b : List ℕ). variable_at (st_of (NameTok b ∷ left) uses rule) ≡ parted_at of_y (st_of (NameTok b ∷ left) uses rule)) (sym same) (letter_name of_y left uses rule)
letter_same of_y (BadTok ∷ left) uses rule e = absurd cc

rest_alone : (of_y y : Bool) (digits : List ℕ) → variable_rest of_y digits ≡ Fits (y, None) → (digits ≡ []) × (of_y ≡ y)
rest_alone of_y y [] e = (refl, ap (λ (p : Bool × Option ℕ). p.0) (fits_is (of_y, None) (y, None) e))
rest_alone of_y y (d ∷ digits) e = absurd (indexed_alone of_y y (whole_of (d ∷ digits) 9999) e)
  where
    indexed_alone : (of_y y : Bool) (o : Option ℕ) → indexed of_y o ≡ Fits (y, None) → ⊥
    indexed_alone of_y y None e = cc
    indexed_alone of_y y (Some n) e = let both : (of_y, Some n) ≡ (y, None) = fits_is (of_y, Some n) (y, None) e in let parts : Some n ≡ None = ap (λ (p : Bool × Option ℕ). p.1) both in cc

-- where a letter stands alone, one of the tests tells it
letter_alone : (y : Bool) (o : Option Tok) → variable_fit o ≡ Fits (y, None) → is_letter y o ≡ true
letter_alone y None e = absurd cc
letter_alone y (Some (MarkTok c)) e = absurd cc
letter_alone y (Some (TextTok bytes)) e = absurd cc
letter_alone y (Some (NumberTok bytes)) e = absurd cc
letter_alone y (Some (NameTok [])) e = absurd cc
letter_alone y (Some (NameTok (b ∷ digits))) e =
    let c = letter_is (eqb b 88) (eqb b 89) b digits (y, None) refl refl e in
    let r = rest_alone c.0 y digits c.2 in
    let same : b ∷ digits ≡ letter y ∷ [] = ap (λ (x : ℕ). x ∷ digits) (c.1 ∙ ap letter r.1) ∙ ap (λ (ds : List ℕ). letter y ∷ ds) r.0 in
    ap (λ (bytes : List ℕ). is_letter y (Some (NameTok bytes))) same ∙ rw ((bytes_eq-Decides (letter y ∷ []) (letter y ∷ [])).1 refl) refl
letter_alone y (Some BadTok) e = absurd cc

variable_number : (o : Option Tok) → variable_fit o ≡ NoNumber → ⊥
variable_number None e = cc
variable_number (Some (MarkTok c)) e = cc
variable_number (Some (TextTok bytes)) e = cc
variable_number (Some (NumberTok bytes)) e = cc
variable_number (Some (NameTok [])) e = cc
variable_number (Some (NameTok (b ∷ digits))) e = chosen (eqb b 88) (eqb b 89) digits e
  where
    indexed_number : (of_y : Bool) (o : Option ℕ) → indexed of_y o ≡ NoNumber → ⊥
    indexed_number of_y None e = cc
    indexed_number of_y (Some n) e = cc

    rest_number : (of_y : Bool) (digits : List ℕ) → variable_rest of_y digits ≡ NoNumber → ⊥
    rest_number of_y [] e = cc
    rest_number of_y (d ∷ digits) e = indexed_number of_y (whole_of (d ∷ digits) 9999) e

    chosen : (x y : Bool) (digits : List ℕ) → cond x (variable_rest false digits) (cond y (variable_rest true digits) Unfit) ≡ NoNumber → ⊥
    chosen true y digits e = rest_number false digits e
    chosen false true digits e = rest_number true digits e
    chosen false false digits e = cc
variable_number (Some BadTok) e = cc

behind_err : (n : ℕ) (w : Bool × Option ℕ) (st : State) (f : Fault) → variable_behind n (w, st) ≡ Err f → w.1 ≡ None
behind_err n (y, None) st f e = refl
behind_err n (y, Some i) st f e = absurd cc

no_letter : (y : Bool) (left : List Tok) (w : Option ℕ) → is_letter false (head left) ≡ false → is_letter true (head left) ≡ false → variable_fit (head left) ≡ Fits (y, w) → w ≡ None → ⊥
no_letter false left w x y fits none = let yes : is_letter false (head left) ≡ true = letter_alone false (head left) (fits ∙ ap (λ (o : Option ℕ). Fits (false, o)) none) in cc
no_letter true left w x y fits none = let yes : is_letter true (head left) ≡ true = letter_alone true (head left) (fits ∙ ap (λ (o : Option ℕ). Fits (true, o)) none) in cc

opened : (st : State) (f : Fault) → variable_at st ≡ Err f → (judged (variable_fit (head st.left)) st >>= variable_behind (length st.left)) ≡ Err f
unfolding variable_at
opened st f e = e

fails : (s : State) → (g : Fault) × (judged (variable_fit (head s.left)) s ≡ Err g) → (g : Fault) × (variable_at s ≡ Err g)
unfolding variable_at
fails s bad = fault_first (judged (variable_fit (head s.left)) s) (variable_behind (length s.left)) bad

variable_err : (most : Limits) (b c : Bool) (st : State) (f : Fault) → is_letter false (head st.left) ≡ b → is_letter true (head st.left) ≡ c → variable_at st ≡ Err f → Broken (Bool × ℕ) most variable (λ what. variable) (λ limits. variable_at) st f
unfolding either
variable_err most true c st f x y e =
    broken_in st f ((told_parted false).err st f (sym (letter_same false st.left st.uses st.rule x) ∙ e)) (λ said v l. inr (inl l)) (λ what said v l. inr (inl l))
    (λ limits s like. inr (letter_same false s.left s.uses s.rule (blind_same (is_letter false) (blind_name (letter false ∷ [])) (head s.left) (head st.left) like ∙ x)))
variable_err most false true st f x y e =
    broken_in st f ((told_parted true).err st f (sym (letter_same true st.left st.uses st.rule y) ∙ e)) (λ said v l. inr (inr l)) (λ what said v l. inr (inr l))
    (λ limits s like. inr (letter_same true s.left s.uses s.rule (blind_same (is_letter true) (blind_name (letter true ∷ [])) (head s.left) (head st.left) like ∙ y)))
variable_err most false false st f x y e =
    elim (bind_err (judged (variable_fit (head st.left)) st) (variable_behind (length st.left)) f (opened st f e)) [
      | inl bad ↦ word_broken variable_fit (λ limits. variable_at) unfit_variable (complete_said (naming (NameTok (88 ∷ 49 ∷ [])) Mapped 1 ∷ []) (false, 1) (inl says_joined)) (wants_none variable_fit variable_number) (λ limits. fails) st f bad
      | inr on ↦
          let j = judged_ok (variable_fit (head st.left)) st on.0.0 on.0.1 on.1 in
          absurd (no_letter on.0.0.0 st.left on.0.0.1 x y j.0 (behind_err (length st.left) on.0.0 on.0.1 f on.2))
    ]

told_variable : {most : Limits} → Single (Bool × ℕ) most variable variable_at
told_variable {most} =
    record {
      some = (naming (NameTok (88 ∷ 49 ∷ [])) Mapped 1 ∷ [], (false, 1), says_variable);
      grow = λ what said v l. l;
      ok = gone_good good_variable;
      err = λ st f e. variable_err most (is_letter false (head st.left)) (is_letter true (head st.left)) st f refl refl e;
    }

twin_term : {most : Limits} → Single Term most term (number_at 160000 ▸ λ c. variable_at ▸ λ v. pure (record { coefficient = c; of_y = v.0; point = v.1 }))
twin_term = then (told_number 160000 small_bound) (λ c. then told_variable (λ v. ended (record { coefficient = c; of_y = v.0; point = v.1 })))

pub told_term : {most : Limits} → Single Term most term term_at
unfolding term_at ◌▸◌ pure
told_term = twin_term
