-- What may come at a spot, and of what kind a refusal there is.
use Rattle.std.proofs.Common.{◌≡◌, ℕ, zero, suc, ◌+◌, ◌<◌, ◌≤◌, Bool, true, false, cond, not, ◌&&◌, eqb, ◌⊎◌, inl, inr, [], ◌∷◌, length, Option, Some, None, Ok, Err, ℤ, pos, refl, sym, ap, subst, ◌∙◌, arith, length-append}
use Rattle.std.specs.Prelude.{nat_le}
use Rattle.std.specs.Char.{is_ascii_digit, is_ascii_alphabetic}
use Rattle.std.specs.Str.{bytes_eq}
use Rattle.std.proofs.lemmas.Bool.{and_parts, both_ways, ltb-true, leb-true}
use Rattle.std.proofs.lemmas.Bool.Decides.{nat_tests}
use Rattle.std.proofs.lemmas.List.{append-nil}
use Rattle.std.proofs.lemmas.Option.{cond_some}
use Rattle.std.proofs.lemmas.Slice.Eq.{bytes_eq-Decides}
use Rattle.word_scan.specs.declared.decimals.Dec.{Dec}
use Rattle.word_scan.specs.Numerals.{whole_of, is_whole, value_of}
use Rattle.word_scan.specs.Decimals.{decimal_of, NoSign, DecimalParts, IsDecimal, spelling, value, made_of}
use Rattle.word_scan.proofs.DecimalLaws.{decimal_read}
use Rattle.in2d_reader.specs.declared.geometry.RawGeometry.{RawGeometry}
use Rattle.in2d_reader.specs.declared.refusal.In2dRefusal.{In2dRefusal}
use Rattle.in2d_reader.specs.declared.refusal.In2dRefusal.TheVariants.{Syntax, Number, Curved, TooMany, NumberTwice, UnknownPoint, Memory}
use Rattle.in2d_reader.specs.declared.place.HeadPlace.TheVariants as heads
use Rattle.in2d_reader.specs.declared.place.PointPlace.TheVariants as points
use Rattle.in2d_reader.specs.declared.place.SegmentPlace.TheVariants as segments
use Rattle.in2d_reader.specs.Words.{Word, head_word, points_word, segments_word, materials_word, two_word, three_word, maxh_text, bc_text, is_flag, is_name, behind, Given, Nothing, Value, Bad, size_in, number_in, from_one}
use Rattle.in2d_reader.specs.Steps.{NoMaterial, MaterialName, MaterialEnd, Spot, InHead, InPoints, InSegments, InMaterials, Draft, Step, at_spot, with_point, with_segment, with_material, with_number, or_else, ◌>>=◌, head_step, size_after, number_after, sized_point, flagged_segment, sized_material, new_point, point_start, point_flag, point_step, new_segment, segment_start, shape_step, segment_flag, segment_step, material_start, material_flag, material_step, spot_step, step, steps, whole_raw, finish_spot, finish}
use Rattle.in2d_reader.proofs.Forward.{bind_ok, or_else_ok, chosen_ok, done, new_segment_row, new_material_row}
use Rattle.in2d_reader.proofs.Again.{whole_digits, digits_no_flag, segments_no_flag, materials_no_flag, steps_one, at_first_point, two_step, from_step, to_step, name_step}
use Rattle.in2d_reader.proofs.Completed.{points_step, first_step}

-- ---- what is needed at a spot

-- a number inside a row, or that of the file; a flag, or what follows a row; or something else
pub data Need : Type 0 where
  Inside : Need
  AfterRow : Need
  Other : Need

abbrev pub need : Spot → Need
need (InHead heads.First) = Other
need (InHead heads.Number) = Inside
need (InHead heads.Points) = Other
need (InPoints points.Start) = Other
need (InPoints (points.X n)) = Inside
need (InPoints (points.Y n x)) = Inside
need (InPoints (points.End row)) = AfterRow
need (InSegments segments.Start) = Other
need (InSegments (segments.Right left)) = Inside
need (InSegments (segments.Shape left right)) = Inside
need (InSegments (segments.From left right)) = Inside
need (InSegments (segments.To left right p)) = Inside
need (InSegments (segments.End row)) = AfterRow
need (InMaterials NoMaterial) = Other
need (InMaterials (MaterialName domain)) = Other
need (InMaterials (MaterialEnd row)) = AfterRow

abbrev pub IsInside : Need → Type 0
IsInside Inside = Unit {0}
IsInside AfterRow = ⊥
IsInside Other = ⊥

abbrev pub IsRowEnd : Need → Type 0
IsRowEnd Inside = ⊥
IsRowEnd AfterRow = Unit {0}
IsRowEnd Other = ⊥

abbrev pub IsOpen : Need → Type 0
IsOpen Inside = ⊥
IsOpen AfterRow = Unit {0}
IsOpen Other = Unit {0}

-- the third number of segment k
abbrev pub IsShape : Draft → Spot → ℕ → Type 0
IsShape d spot k = (left : ℕ) × (right : ℕ) × (spot ≡ InSegments (segments.Shape left right)) × (k ≡ length d.segments + 1)

-- ---- words that are no number

pub some_none : {A : Type 0} (o : Option A) (x : A) → o ≡ Some x → o ≡ None → ⊥
some_none o x e n = cc

three_decimal : (d : Dec) × (decimal_of three_word ≡ Some d)
unfolding decimal_of three_word
three_decimal = (record { digits = pos 3; scale = pos 0 }, refl)

three_domain : whole_of three_word 64 ≡ Some 3
unfolding three_word
three_domain = refl

three_number : whole_of three_word 999999 ≡ Some 3
unfolding three_word
three_number = refl

three_no_flag : is_flag three_word ≡ false
unfolding three_word is_flag
three_no_flag = refl

head_no_flag : is_flag head_word ≡ false
unfolding head_word is_flag
head_no_flag = refl

points_no_flag : is_flag points_word ≡ false
unfolding points_word is_flag
points_no_flag = refl

no_decimal_head : decimal_of head_word ≡ None
unfolding head_word decimal_of
no_decimal_head = refl

no_decimal_points : decimal_of points_word ≡ None
unfolding points_word decimal_of
no_decimal_points = refl

no_decimal_segments : decimal_of segments_word ≡ None
unfolding segments_word decimal_of
no_decimal_segments = refl

letter_word : Word
letter_word = 120 ∷ []

letter_is_name : is_name letter_word ≡ true
unfolding letter_word is_name
letter_is_name = refl

no_decimal_letter : decimal_of letter_word ≡ None
unfolding letter_word decimal_of
no_decimal_letter = refl

-- a flag is neither a number nor a name nor a fixed word
letter_no_digit : (c : ℕ) → is_ascii_alphabetic c ≡ true → is_ascii_digit c ≡ false
letter_no_digit c e = grind (arith, nat_tests)

letter_no_point : (c : ℕ) → is_ascii_alphabetic c ≡ true → eqb c 46 ≡ false
letter_no_point c e = grind (arith, nat_tests)

no_digits : (short : Bool) (power : Option ℤ) → cond short (made_of true [] [] power) None ≡ None
no_digits true None = refl
no_digits true (Some power) = refl
no_digits false power = refl

flag_no_decimal : (word : Word) → is_flag word ≡ true → decimal_of word ≡ None
unfolding is_flag decimal_of
flag_no_decimal [] e = absurd cc
flag_no_decimal (b ∷ []) e = absurd cc
flag_no_decimal (b ∷ c ∷ bytes) e =
    let parts = and_parts (eqb b 45) (is_ascii_alphabetic c) e in
    rw (parts.0, letter_no_digit c parts.1, letter_no_point c parts.1) (no_digits _ _)

flag_no_whole : (word : Word) (greatest n : ℕ) → is_flag word ≡ true → whole_of word greatest ≡ Some n → ⊥
flag_no_whole word greatest n flag e = both_ways (is_flag word) (digits_no_flag word (whole_digits word greatest n e)) flag

not_twice : (b : Bool) → b ≡ true → not b ≡ true → ⊥
not_twice true e n = cc
not_twice false e n = cc

flag_no_name : (word : Word) → is_flag word ≡ true → is_name word ≡ true → ⊥
unfolding is_flag is_name
flag_no_name [] e name = cc
flag_no_name (b ∷ []) e name = cc
flag_no_name (b ∷ c ∷ bytes) e name = not_twice (eqb b 45) (and_parts (eqb b 45) (is_ascii_alphabetic c) e).0 name

flag_not_fixed : (word fixed : Word) → is_flag fixed ≡ false → is_flag word ≡ true → bytes_eq word fixed ≡ true → ⊥
flag_not_fixed word fixed none flag same = both_ways (is_flag word) (ap is_flag ((bytes_eq-Decides word fixed).0 same) ∙ none) flag

-- ---- inside a row only a number may come

-- a whole number is a decimal
whole_is_decimal : (word : Word) (greatest n : ℕ) → whole_of word greatest ≡ Some n → (d : Dec) × (decimal_of word ≡ Some d)
whole_is_decimal word greatest n e =
    let c = cond_some (is_whole word && nat_le (value_of word) greatest) (value_of word) n e in
    let outer = and_parts _ _ (and_parts (is_whole word) (nat_le (value_of word) greatest) c.0).0 in
    let inner = and_parts _ _ outer.0 in
    let some : 0 < length word = ltb-true _ _ inner.0 in
    let few : length word ≤ 13 = leb-true _ _ inner.1 in
    let parts : DecimalParts = record { sign = NoSign; front = word; fraction = None; power = None } in
    let same : spelling parts ≡ word = append-nil word in
    let is : IsDecimal parts = record { front = outer.1; behind = refl; some = omega arith; few = omega arith; power = tt; short = omega (arith, ap length same); scale = omega arith } in
    (value parts, ap decimal_of (sym same) ∙ decimal_read parts is)

two_decimal : (d : Dec) × (decimal_of two_word ≡ Some d)
unfolding decimal_of two_word
two_decimal = (record { digits = pos 2; scale = pos 0 }, refl)

whole_inside : (word : Word) (greatest at : ℕ) (f : ℕ → Step) (next : Draft) → (or_else (whole_of word greatest) (Number at) >>= f) ≡ Ok next → (d : Dec) × (decimal_of word ≡ Some d)
whole_inside word greatest at f next e =
    let b = bind_ok (or_else (whole_of word greatest) (Number at)) f next e in
    whole_is_decimal word greatest b.0 (or_else_ok _ _ _ b.1)

decimal_inside : (word : Word) (at : ℕ) (f : Dec → Step) (next : Draft) → (or_else (decimal_of word) (Number at) >>= f) ≡ Ok next → (d : Dec) × (decimal_of word ≡ Some d)
decimal_inside word at f next e =
    let b = bind_ok (or_else (decimal_of word) (Number at)) f next e in
    (b.0, or_else_ok _ _ _ b.1)

shape_inside : (b c : Bool) (word : Word) (at k : ℕ) (m next : Draft) → bytes_eq word two_word ≡ b → cond b (Ok m) (cond c (Err (Curved k)) (Err (Number at))) ≡ done next → (d : Dec) × (decimal_of word ≡ Some d)
shape_inside true c word at k m next e h = (two_decimal.0, ap decimal_of ((bytes_eq-Decides word two_word).0 e) ∙ two_decimal.1)
shape_inside false true word at k m next e h = absurd cc
shape_inside false false word at k m next e h = absurd cc

pub inside_is_number : (d next : Draft) (spot : Spot) (at : ℕ) (word : Word) → IsInside (need spot) → spot_step false d spot at word ≡ Ok next → (v : Dec) × (decimal_of word ≡ Some v)
unfolding spot_step head_step point_step segment_step shape_step
inside_is_number d next (InHead heads.First) at word inside e = absurd inside
inside_is_number d next (InHead heads.Number) at word inside e = decimal_inside word at _ next e
inside_is_number d next (InHead heads.Points) at word inside e = absurd inside
inside_is_number d next (InPoints points.Start) at word inside e = absurd inside
inside_is_number d next (InPoints (points.X n)) at word inside e = decimal_inside word at _ next e
inside_is_number d next (InPoints (points.Y n x)) at word inside e = decimal_inside word at _ next e
inside_is_number d next (InPoints (points.End row)) at word inside e = absurd inside
inside_is_number d next (InSegments segments.Start) at word inside e = absurd inside
inside_is_number d next (InSegments (segments.Right left)) at word inside e = whole_inside word 64 at _ next e
inside_is_number d next (InSegments (segments.Shape left right)) at word inside e = shape_inside (bytes_eq word two_word) (bytes_eq word three_word) word at (length d.segments + 1) (at_spot d (InSegments (segments.From left right))) next refl e
inside_is_number d next (InSegments (segments.From left right)) at word inside e = whole_inside word 999999 at _ next e
inside_is_number d next (InSegments (segments.To left right p)) at word inside e = whole_inside word 999999 at _ next e
inside_is_number d next (InSegments (segments.End row)) at word inside e = absurd inside
inside_is_number d next (InMaterials NoMaterial) at word inside e = absurd inside
inside_is_number d next (InMaterials (MaterialName domain)) at word inside e = absurd inside
inside_is_number d next (InMaterials (MaterialEnd row)) at word inside e = absurd inside

pub inside_goes_on : (d : Draft) (spot : Spot) (at : ℕ) (raw : RawGeometry) → IsInside (need spot) → finish_spot d spot at ≡ Ok raw → ⊥
unfolding finish_spot
inside_goes_on d (InHead place) at raw inside e = cc
inside_goes_on d (InPoints place) at raw inside e = cc
inside_goes_on d (InSegments segments.Start) at raw inside e = inside
inside_goes_on d (InSegments (segments.Right left)) at raw inside e = cc
inside_goes_on d (InSegments (segments.Shape left right)) at raw inside e = cc
inside_goes_on d (InSegments (segments.From left right)) at raw inside e = cc
inside_goes_on d (InSegments (segments.To left right p)) at raw inside e = cc
inside_goes_on d (InSegments (segments.End row)) at raw inside e = inside
inside_goes_on d (InMaterials NoMaterial) at raw inside e = inside
inside_goes_on d (InMaterials (MaterialName domain)) at raw inside e = inside
inside_goes_on d (InMaterials (MaterialEnd row)) at raw inside e = inside

-- ---- a flag may come behind a row, and nowhere else

passed : (b : Bool) (m next : Draft) (e : In2dRefusal) → cond b (Ok m) (Err e) ≡ done next → b ≡ true
passed true m next e h = refl
passed false m next e h = absurd cc

from_one_ok : (o : Option ℕ) (n : ℕ) → from_one o ≡ Some n → (k : ℕ) × (o ≡ Some k)
from_one_ok None n e = absurd cc
from_one_ok (Some zero) n e = absurd cc
from_one_ok (Some (suc k)) n e = (suc k, refl)

-- a fixed word, or a number that begins a row
row_no_flag : (word fixed : Word) (greatest at : ℕ) (m next : Draft) (f : ℕ → Step) → is_flag fixed ≡ false → is_flag word ≡ true → cond (bytes_eq word fixed) (Ok m) (or_else (whole_of word greatest) (Syntax at) >>= f) ≡ Ok next → ⊥
row_no_flag word fixed greatest at m next f none flag e =
    elim (chosen_ok (bytes_eq word fixed) (Ok m) (or_else (whole_of word greatest) (Syntax at) >>= f) (Ok next) e) [
      | inl is ↦ flag_not_fixed word fixed none flag is.0
      | inr on ↦
          let b = bind_ok (or_else (whole_of word greatest) (Syntax at)) f next on.1 in
          flag_no_whole word greatest b.0 flag (or_else_ok _ _ _ b.1)
    ]

material_no_flag : (word : Word) (at : ℕ) (next : Draft) (f : ℕ → Step) → is_flag word ≡ true → (or_else (from_one (whole_of word 64)) (Syntax at) >>= f) ≡ Ok next → ⊥
material_no_flag word at next f flag e =
    let b = bind_ok (or_else (from_one (whole_of word 64)) (Syntax at)) f next e in
    let n = from_one_ok (whole_of word 64) b.0 (or_else_ok _ _ _ b.1) in
    flag_no_whole word 64 n.0 flag n.1

inside_no_flag : (d next : Draft) (spot : Spot) (at : ℕ) (word : Word) → IsInside (need spot) → is_flag word ≡ true → spot_step false d spot at word ≡ Ok next → ⊥
inside_no_flag d next spot at word inside flag e =
    let number = inside_is_number d next spot at word inside e in
    some_none (decimal_of word) number.0 number.1 (flag_no_decimal word flag)

pub flag_follows_row : (d next : Draft) (spot : Spot) (at : ℕ) (word : Word) → is_flag word ≡ true → spot_step false d spot at word ≡ Ok next → IsRowEnd (need spot)
unfolding spot_step head_step point_step point_start segment_step segment_start material_step material_start
flag_follows_row d next (InHead heads.First) at word flag e = flag_not_fixed word head_word head_no_flag flag (passed (bytes_eq word head_word) (at_spot d (InHead heads.Number)) next (Syntax at) e)
flag_follows_row d next (InHead heads.Number) at word flag e = inside_no_flag d next (InHead heads.Number) at word tt flag e
flag_follows_row d next (InHead heads.Points) at word flag e = flag_not_fixed word points_word points_no_flag flag (passed (bytes_eq word points_word) (at_spot d (InPoints points.Start)) next (Syntax at) e)
flag_follows_row d next (InPoints points.Start) at word flag e = row_no_flag word segments_word 999999 at (at_spot d (InSegments segments.Start)) next (new_point false d at) segments_no_flag flag e
flag_follows_row d next (InPoints (points.X n)) at word flag e = inside_no_flag d next (InPoints (points.X n)) at word tt flag e
flag_follows_row d next (InPoints (points.Y n x)) at word flag e = inside_no_flag d next (InPoints (points.Y n x)) at word tt flag e
flag_follows_row d next (InPoints (points.End row)) at word flag e = tt
flag_follows_row d next (InSegments segments.Start) at word flag e = row_no_flag word materials_word 64 at (at_spot d (InMaterials NoMaterial)) next (new_segment false d) materials_no_flag flag e
flag_follows_row d next (InSegments (segments.Right left)) at word flag e = inside_no_flag d next (InSegments (segments.Right left)) at word tt flag e
flag_follows_row d next (InSegments (segments.Shape left right)) at word flag e = inside_no_flag d next (InSegments (segments.Shape left right)) at word tt flag e
flag_follows_row d next (InSegments (segments.From left right)) at word flag e = inside_no_flag d next (InSegments (segments.From left right)) at word tt flag e
flag_follows_row d next (InSegments (segments.To left right p)) at word flag e = inside_no_flag d next (InSegments (segments.To left right p)) at word tt flag e
flag_follows_row d next (InSegments (segments.End row)) at word flag e = tt
flag_follows_row d next (InMaterials NoMaterial) at word flag e = material_no_flag word at next (λ domain. Ok (at_spot d (InMaterials (MaterialName domain)))) flag e
flag_follows_row d next (InMaterials (MaterialName domain)) at word flag e = flag_no_name word flag (passed (is_name word) (at_spot d (InMaterials (MaterialEnd (new_material_row domain word)))) next (Syntax at) e)
flag_follows_row d next (InMaterials (MaterialEnd row)) at word flag e = tt

-- a flag that counts nowhere
pub plain_flag : Word
plain_flag = 45 ∷ 120 ∷ []

pub plain_is_flag : is_flag plain_flag ≡ true
unfolding plain_flag is_flag
plain_is_flag = refl

no_size : size_in plain_flag ≡ Nothing
unfolding size_in behind maxh_text plain_flag
no_size = refl

no_number : number_in plain_flag ≡ Nothing
unfolding number_in behind bc_text plain_flag
no_number = refl

pub flag_on : (d : Draft) (spot : Spot) → IsRowEnd (need spot) → (next : Draft) × ((at : ℕ) → step false (at_spot d spot) at plain_flag ≡ Ok next)
unfolding spot_step point_step point_flag segment_step segment_flag material_step material_flag
flag_on d (InHead heads.First) end = absurd end
flag_on d (InHead heads.Number) end = absurd end
flag_on d (InHead heads.Points) end = absurd end
flag_on d (InPoints points.Start) end = absurd end
flag_on d (InPoints (points.X n)) end = absurd end
flag_on d (InPoints (points.Y n x)) end = absurd end
flag_on d (InPoints (points.End row)) end = (at_spot d (InPoints (points.End row)), λ at. rw (plain_is_flag, no_size) refl)
flag_on d (InSegments segments.Start) end = absurd end
flag_on d (InSegments (segments.Right left)) end = absurd end
flag_on d (InSegments (segments.Shape left right)) end = absurd end
flag_on d (InSegments (segments.From left right)) end = absurd end
flag_on d (InSegments (segments.To left right p)) end = absurd end
flag_on d (InSegments (segments.End row)) end = (at_spot d (InSegments (segments.End row)), λ at. rw (plain_is_flag, no_number, no_size) refl)
flag_on d (InMaterials NoMaterial) end = absurd end
flag_on d (InMaterials (MaterialName domain)) end = absurd end
flag_on d (InMaterials (MaterialEnd row)) end = (at_spot d (InMaterials (MaterialEnd row)), λ at. rw (plain_is_flag, no_size) refl)

-- ---- elsewhere than inside a row, something that is no number may come

-- a word that is no number, or the end
abbrev pub OpensTo : Draft → Type 0
OpensTo d = ((word : Word) × (next : Draft) × ((at : ℕ) → step false d at word ≡ Ok next) × (decimal_of word ≡ None)) ⊎ ((raw : RawGeometry) × ((end : ℕ) → finish d end ≡ Ok raw))

opens_by_flag : (d : Draft) (spot : Spot) → IsRowEnd (need spot) → OpensTo (at_spot d spot)
opens_by_flag d spot end = let on = flag_on d spot end in inl (plain_flag, on.0, on.1, flag_no_decimal plain_flag plain_is_flag)

pub opens_to : (d : Draft) (spot : Spot) → IsOpen (need spot) → OpensTo (at_spot d spot)
unfolding finish finish_spot
opens_to d (InHead heads.First) is = inl (head_word, at_spot d (InHead heads.Number), first_step false d, no_decimal_head)
opens_to d (InHead heads.Number) is = absurd is
opens_to d (InHead heads.Points) is = inl (points_word, at_spot d (InPoints points.Start), points_step false d, no_decimal_points)
opens_to d (InPoints points.Start) is = inl (segments_word, at_spot d (InSegments segments.Start), (λ at. (at_first_point false d).section at), no_decimal_segments)
opens_to d (InPoints (points.X n)) is = absurd is
opens_to d (InPoints (points.Y n x)) is = absurd is
opens_to d (InPoints (points.End row)) is = opens_by_flag d (InPoints (points.End row)) tt
opens_to d (InSegments segments.Start) is = inr (whole_raw d, λ end. refl)
opens_to d (InSegments (segments.Right left)) is = absurd is
opens_to d (InSegments (segments.Shape left right)) is = absurd is
opens_to d (InSegments (segments.From left right)) is = absurd is
opens_to d (InSegments (segments.To left right p)) is = absurd is
opens_to d (InSegments (segments.End row)) is = opens_by_flag d (InSegments (segments.End row)) tt
opens_to d (InMaterials NoMaterial) is = inr (whole_raw d, λ end. refl)
opens_to d (InMaterials (MaterialName domain)) is = inl (letter_word, at_spot d (InMaterials (MaterialEnd (new_material_row domain letter_word))), (λ at. name_step false d domain at letter_word letter_is_name), no_decimal_letter)
opens_to d (InMaterials (MaterialEnd row)) is = opens_by_flag d (InMaterials (MaterialEnd row)) tt

-- ---- a segment that would end as a straight one

pub record Straight (d : Draft) (k : ℕ) : Type 0 where
  pub last : Draft
  pub raw : RawGeometry
  pub inside : IsInside (need d.spot)
  pub read : (at : ℕ) → steps false d at (two_word ∷ two_word ∷ two_word ∷ []) ≡ Ok last
  pub finish : (end : ℕ) → finish last end ≡ Ok raw
  pub count : k ≡ length raw.segments

two_number : whole_of two_word 999999 ≡ Some 2
unfolding two_word
two_number = refl

straight_shape : (d : Draft) (left right : ℕ) → Straight (at_spot d (InSegments (segments.Shape left right))) (length d.segments + 1)
unfolding steps finish finish_spot
straight_shape d left right =
    let row = new_segment_row left right 2 2 in
    let at_shape = at_spot d (InSegments (segments.Shape left right)) in
    let at_from = at_spot d (InSegments (segments.From left right)) in
    let at_to = at_spot d (InSegments (segments.To left right 2)) in
    let at_end = at_spot d (InSegments (segments.End row)) in
    record {
      last = at_end;
      raw = whole_raw (with_segment d row);
      inside = tt;
      read = λ at.
          steps_one false at_shape at_from at two_word (two_word ∷ two_word ∷ []) (two_step false d left right at)
          ∙ steps_one false at_from at_to (at + 1) two_word (two_word ∷ []) (from_step false d left right (at + 1) 2 two_word two_number)
          ∙ steps_one false at_to at_end (at + 1 + 1) two_word [] (to_step false d left right 2 (at + 1 + 1) 2 two_word two_number);
      finish = λ end. refl;
      count = sym (length-append d.segments (row ∷ []));
    }

pub straight : (d : Draft) (spot : Spot) (k : ℕ) → IsShape d spot k → Straight (at_spot d spot) k
straight d spot k shape =
    let here : Straight (at_spot d (InSegments (segments.Shape shape.0 shape.1))) k = subst (λ (n : ℕ). Straight (at_spot d (InSegments (segments.Shape shape.0 shape.1))) n) (sym shape.3) (straight_shape d shape.0 shape.1) in
    subst (λ (s : Spot). Straight (at_spot d s) k) (sym shape.2) here

-- ---- the kind of a refusal fits the spot

abbrev pub KindFits : Draft → Spot → Word → In2dRefusal → Type 0
KindFits d spot word (Syntax v) = IsOpen (need spot) × (is_flag word ≡ true → IsRowEnd (need spot) → ⊥)
KindFits d spot word (Number v) = (IsInside (need spot) ⊎ ((is_flag word ≡ true) × IsRowEnd (need spot))) × (word ≡ three_word → ⊥)
KindFits d spot word (Curved k) = IsShape d spot k
KindFits d spot word (TooMany v) = Unit {0}
KindFits d spot word (NumberTwice v) = Unit {0}
KindFits d spot word (UnknownPoint v) = Unit {0}
KindFits d spot word Memory = Unit {0}

abbrev pub KindsFit : Draft → Spot → Word → Step → Type 0
KindsFit d spot word (Ok next) = Unit {0}
KindsFit d spot word (Err e) = KindFits d spot word e

kinds_cond : (d : Draft) (spot : Spot) (word : Word) (b : Bool) (r s : Step) → KindsFit d spot word r → KindsFit d spot word s → KindsFit d spot word (cond b r s)
kinds_cond d spot word true r s p q = p
kinds_cond d spot word false r s p q = q

kinds_flag : (d : Draft) (spot : Spot) (word : Word) (b : Bool) (r s : Step) → is_flag word ≡ b → (is_flag word ≡ true → KindsFit d spot word r) → (is_flag word ≡ false → KindsFit d spot word s) → KindsFit d spot word (cond b r s)
kinds_flag d spot word true r s e p q = p e
kinds_flag d spot word false r s e p q = q e

kinds_or : {A : Type 0} (d : Draft) (spot : Spot) (word : Word) (o : Option A) (e : In2dRefusal) (f : A → Step) → (o ≡ None → KindFits d spot word e) → ((x : A) → KindsFit d spot word (f x)) → KindsFit d spot word (or_else o e >>= f)
kinds_or d spot word None e f p q = p refl
kinds_or d spot word (Some x) e f p q = q x

kinds_size : (d : Draft) (spot : Spot) (word : Word) (at : ℕ) (before : Option Dec) (given : Given Dec) (f : Option Dec → Step) → KindFits d spot word (Number at) → ((x : Option Dec) → KindsFit d spot word (f x)) → KindsFit d spot word (size_after before at given >>= f)
kinds_size d spot word at before Nothing f p q = q before
kinds_size d spot word at before (Value x) f p q = q (Some x)
kinds_size d spot word at before Bad f p q = p

kinds_number : (d : Draft) (spot : Spot) (word : Word) (at : ℕ) (before : Option ℕ) (given : Given ℕ) (f : Option ℕ → Step) → KindFits d spot word (Number at) → ((x : Option ℕ) → KindsFit d spot word (f x)) → KindsFit d spot word (number_after before at given >>= f)
kinds_number d spot word at before Nothing f p q = q before
kinds_number d spot word at before (Value x) f p q = q (Some x)
kinds_number d spot word at before Bad f p q = p

-- where a number is needed, `3` is one
other_than_three : (word : Word) → decimal_of word ≡ None → word ≡ three_word → ⊥
other_than_three word none three = some_none (decimal_of word) three_decimal.0 (ap decimal_of three ∙ three_decimal.1) none

no_domain_three : (word : Word) → whole_of word 64 ≡ None → word ≡ three_word → ⊥
no_domain_three word none three = some_none (whole_of word 64) 3 (ap (λ (w : Word). whole_of w 64) three ∙ three_domain) none

no_number_three : (word : Word) → whole_of word 999999 ≡ None → word ≡ three_word → ⊥
no_number_three word none three = some_none (whole_of word 999999) 3 (ap (λ (w : Word). whole_of w 999999) three ∙ three_number) none

no_flag_three : (word : Word) → is_flag word ≡ true → word ≡ three_word → ⊥
no_flag_three word flag three = both_ways (is_flag word) (ap is_flag three ∙ three_no_flag) flag

-- a word that is no flag is no flag that counts
no_end : (word : Word) (n : Need) → is_flag word ≡ false → is_flag word ≡ true → IsRowEnd n → ⊥
no_end word n none flag end = both_ways (is_flag word) none flag

point_start_kinds : (c d : Draft) (spot : Spot) (at : ℕ) (word : Word) → KindFits c spot word (Syntax at) → KindsFit c spot word (point_start false d at word)
unfolding point_start new_point
point_start_kinds c d spot at word fits =
    kinds_cond c spot word (bytes_eq word segments_word) (Ok (at_spot d (InSegments segments.Start))) (or_else (whole_of word 999999) (Syntax at) >>= new_point false d at) tt
    (kinds_or c spot word (whole_of word 999999) (Syntax at) (new_point false d at) (λ none. fits) (λ n. tt))

segment_start_kinds : (c d : Draft) (spot : Spot) (at : ℕ) (word : Word) → KindFits c spot word (Syntax at) → KindsFit c spot word (segment_start false d at word)
unfolding segment_start new_segment
segment_start_kinds c d spot at word fits =
    kinds_cond c spot word (bytes_eq word materials_word) (Ok (at_spot d (InMaterials NoMaterial))) (or_else (whole_of word 64) (Syntax at) >>= new_segment false d) tt
    (kinds_or c spot word (whole_of word 64) (Syntax at) (new_segment false d) (λ none. fits) (λ n. tt))

material_start_kinds : (c d : Draft) (spot : Spot) (at : ℕ) (word : Word) → KindFits c spot word (Syntax at) → KindsFit c spot word (material_start d at word)
unfolding material_start
material_start_kinds c d spot at word fits = kinds_or c spot word (from_one (whole_of word 64)) (Syntax at) (λ domain. Ok (at_spot d (InMaterials (MaterialName domain)))) (λ none. fits) (λ n. tt)

shape_kinds : (d : Draft) (left right at : ℕ) (word : Word) (b : Bool) → bytes_eq word three_word ≡ b → KindsFit d (InSegments (segments.Shape left right)) word (cond b (Err (Curved (length d.segments + 1))) (Err (Number at)))
shape_kinds d left right at word true e = (left, right, refl, refl)
shape_kinds d left right at word false e = (inl tt, λ three. both_ways (bytes_eq word three_word) e ((bytes_eq-Decides word three_word).1 three))

pub spot_kinds : (d : Draft) (spot : Spot) (at : ℕ) (word : Word) → KindsFit d spot word (spot_step false d spot at word)
unfolding spot_step head_step point_step point_flag segment_step segment_flag shape_step material_step material_flag
spot_kinds d (InHead heads.First) at word = kinds_cond d (InHead heads.First) word (bytes_eq word head_word) (Ok (at_spot d (InHead heads.Number))) (Err (Syntax at)) tt (tt, λ flag end. end)
spot_kinds d (InHead heads.Number) at word = kinds_or d (InHead heads.Number) word (decimal_of word) (Number at) (λ number. Ok (at_spot (with_number d number) (InHead heads.Points))) (λ none. (inl tt, other_than_three word none)) (λ x. tt)
spot_kinds d (InHead heads.Points) at word = kinds_cond d (InHead heads.Points) word (bytes_eq word points_word) (Ok (at_spot d (InPoints points.Start))) (Err (Syntax at)) tt (tt, λ flag end. end)
spot_kinds d (InPoints points.Start) at word = point_start_kinds d d (InPoints points.Start) at word (tt, λ flag end. end)
spot_kinds d (InPoints (points.X n)) at word = kinds_or d (InPoints (points.X n)) word (decimal_of word) (Number at) (λ x. Ok (at_spot d (InPoints (points.Y n x)))) (λ none. (inl tt, other_than_three word none)) (λ x. tt)
spot_kinds d (InPoints (points.Y n x)) at word = kinds_or d (InPoints (points.Y n x)) word (decimal_of word) (Number at) (λ y. Ok (at_spot d (InPoints (points.End (record { number = n; x = x; y = y; maxh = None }))))) (λ none. (inl tt, other_than_three word none)) (λ y. tt)
spot_kinds d (InPoints (points.End row)) at word =
    kinds_flag d (InPoints (points.End row)) word (is_flag word) (point_flag d row at word) (point_start false (with_point d row) at word) refl
    (λ flag. kinds_size d (InPoints (points.End row)) word at row.maxh (size_in word) (λ maxh. Ok (at_spot d (InPoints (points.End (sized_point row maxh))))) (inr (flag, tt), no_flag_three word flag) (λ x. tt))
    (λ none. point_start_kinds d (with_point d row) (InPoints (points.End row)) at word (tt, no_end word AfterRow none))
spot_kinds d (InSegments segments.Start) at word = segment_start_kinds d d (InSegments segments.Start) at word (tt, λ flag end. end)
spot_kinds d (InSegments (segments.Right left)) at word = kinds_or d (InSegments (segments.Right left)) word (whole_of word 64) (Number at) (λ n. Ok (at_spot d (InSegments (segments.Shape left n)))) (λ none. (inl tt, no_domain_three word none)) (λ n. tt)
spot_kinds d (InSegments (segments.Shape left right)) at word =
    kinds_cond d (InSegments (segments.Shape left right)) word (bytes_eq word two_word) (Ok (at_spot d (InSegments (segments.From left right)))) (cond (bytes_eq word three_word) (Err (Curved (length d.segments + 1))) (Err (Number at))) tt
    (shape_kinds d left right at word (bytes_eq word three_word) refl)
spot_kinds d (InSegments (segments.From left right)) at word = kinds_or d (InSegments (segments.From left right)) word (whole_of word 999999) (Number at) (λ n. Ok (at_spot d (InSegments (segments.To left right n)))) (λ none. (inl tt, no_number_three word none)) (λ n. tt)
spot_kinds d (InSegments (segments.To left right p)) at word = kinds_or d (InSegments (segments.To left right p)) word (whole_of word 999999) (Number at) (λ n. Ok (at_spot d (InSegments (segments.End (new_segment_row left right p n))))) (λ none. (inl tt, no_number_three word none)) (λ n. tt)
spot_kinds d (InSegments (segments.End row)) at word =
    kinds_flag d (InSegments (segments.End row)) word (is_flag word) (segment_flag d row at word) (segment_start false (with_segment d row) at word) refl
    (λ flag. kinds_number d (InSegments (segments.End row)) word at row.bc (number_in word) (λ bc. size_after row.maxh at (size_in word) >>= λ maxh. Ok (at_spot d (InSegments (segments.End (flagged_segment row bc maxh))))) (inr (flag, tt), no_flag_three word flag)
    (λ bc. kinds_size d (InSegments (segments.End row)) word at row.maxh (size_in word) (λ maxh. Ok (at_spot d (InSegments (segments.End (flagged_segment row bc maxh))))) (inr (flag, tt), no_flag_three word flag) (λ x. tt)))
    (λ none. segment_start_kinds d (with_segment d row) (InSegments (segments.End row)) at word (tt, no_end word AfterRow none))
spot_kinds d (InMaterials NoMaterial) at word = material_start_kinds d d (InMaterials NoMaterial) at word (tt, λ flag end. end)
spot_kinds d (InMaterials (MaterialName domain)) at word = kinds_cond d (InMaterials (MaterialName domain)) word (is_name word) (Ok (at_spot d (InMaterials (MaterialEnd (new_material_row domain word))))) (Err (Syntax at)) tt (tt, λ flag end. end)
spot_kinds d (InMaterials (MaterialEnd row)) at word =
    kinds_flag d (InMaterials (MaterialEnd row)) word (is_flag word) (material_flag d row at word) (material_start (with_material d row) at word) refl
    (λ flag. kinds_size d (InMaterials (MaterialEnd row)) word at row.maxh (size_in word) (λ maxh. Ok (at_spot d (InMaterials (MaterialEnd (sized_material row maxh))))) (inr (flag, tt), no_flag_three word flag) (λ x. tt))
    (λ none. material_start_kinds d (with_material d row) (InMaterials (MaterialEnd row)) at word (tt, no_end word AfterRow none))
