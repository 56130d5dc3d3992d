-- What the grammar derives is read.
use Rattle.std.proofs.Common.{◌≡◌, ℕ, zero, suc, ◌+◌, Bool, true, false, cond, ◌&&◌, eqb, List, [], ◌∷◌, ◌++◌, length, Option, Some, None, Ok, Err, refl, sym, ap, subst, ◌∙◌, arith, append_assoc}
use Rattle.std.specs.Prelude.{nat_le}
use Rattle.std.specs.Str.{bytes_eq, all_ascii_digits}
use Rattle.std.specs.List.{flat_map, AllByRecursion}
use Rattle.std.proofs.lemmas.Bool.{ne_eqb, both_ways, false_from_ne_true, and_parts}
use Rattle.std.proofs.lemmas.List.{append-nil}
use Rattle.std.proofs.lemmas.Option.{cond_some}
use Rattle.std.proofs.lemmas.Slice.Eq.{bytes_eq-Decides}
use Rattle.std.proofs.lemmas.Str.Parse.{tells_all_ascii_digits}
use Rattle.word_scan.specs.declared.decimals.Dec.{Dec}
use Rattle.word_scan.specs.Numerals.{whole_of, is_whole, value_of}
use Rattle.word_scan.specs.Decimals.{decimal_of}
use Rattle.in2d_reader.specs.declared.geometry.PointRow.{PointRow}
use Rattle.in2d_reader.specs.declared.geometry.SegmentRow.{SegmentRow}
use Rattle.in2d_reader.specs.declared.geometry.MaterialRow.{MaterialRow}
use Rattle.in2d_reader.specs.declared.geometry.RawGeometry.{RawGeometry}
use Rattle.in2d_reader.specs.declared.refusal.In2dRefusal.TheVariants.{Syntax, TooMany, NumberTwice}
use Rattle.in2d_reader.specs.declared.place.HeadPlace.TheVariants as heads
use Rattle.in2d_reader.specs.declared.place.PointPlace.TheVariants as points
use Rattle.in2d_reader.specs.declared.place.SegmentPlace.TheVariants as segments
use Rattle.in2d_reader.specs.Words.{Word, head_word, points_word, segments_word, materials_word, two_word, is_flag, is_name, Given, Nothing, Value, Bad, size_in, number_in, from_one}
use Rattle.in2d_reader.specs.Steps.{NoMaterial, MaterialName, MaterialEnd, InHead, InPoints, InSegments, InMaterials, Draft, Step, at_spot, with_point, with_segment, with_material, with_number, or_else, ◌>>=◌, head_step, size_after, number_after, sized_point, flagged_segment, sized_material, new_point, point_start, point_flag, point_step, new_segment, segment_start, shape_step, segment_flag, segment_step, material_start, material_flag, material_step, spot_step, step, nothing_read, steps, whole_raw, finish_spot, finish}
use Rattle.in2d_reader.specs.Grammar.{is_known, PointText, SegmentText, MaterialText, FileText, point_words, segment_words, material_words, materials_part, segments_part, points_part, file_words, IsGood, latest, last_value, IsSizeFlag, IsSegmentFlag, IsPoint, IsSegment, IsMaterial, Each, material_texts, IsFile}
use Rattle.in2d_reader.proofs.Forward.{bind_ok, guard_ok, done, new_point_row, new_segment_row, new_material_row}

-- ---- a number is no fixed word and no flag

pub whole_digits : (word : Word) (greatest n : ℕ) → whole_of word greatest ≡ Some n → all_ascii_digits word ≡ true
whole_digits word greatest n e =
    let c = cond_some (is_whole word && nat_le (value_of word) greatest) (value_of word) n e in
    (and_parts _ _ (and_parts _ _ c.0).0).1

pub digits_no_flag : (word : Word) → all_ascii_digits word ≡ true → is_flag word ≡ false
unfolding is_flag
digits_no_flag [] all = refl
digits_no_flag (b ∷ []) all = refl
digits_no_flag (b ∷ c ∷ word) all =
    let parts = tells_all_ascii_digits.parts b (c ∷ word) all in
    let other : eqb b 45 ≡ false = ne_eqb b 45 (λ e. omega (arith, parts.0.0, e)) in
    rw other refl

other_word : (word fixed : Word) → all_ascii_digits word ≡ true → all_ascii_digits fixed ≡ false → bytes_eq word fixed ≡ false
other_word word fixed all none = false_from_ne_true (bytes_eq word fixed) (λ t. both_ways (all_ascii_digits word) (ap all_ascii_digits ((bytes_eq-Decides word fixed).0 t) ∙ none) all)

pub same_word : (fixed : Word) → bytes_eq fixed fixed ≡ true
same_word fixed = (bytes_eq-Decides fixed fixed).1 refl

segments_no_digits : all_ascii_digits segments_word ≡ false
unfolding segments_word
segments_no_digits = refl

materials_no_digits : all_ascii_digits materials_word ≡ false
unfolding materials_word
materials_no_digits = refl

pub segments_no_flag : is_flag segments_word ≡ false
unfolding segments_word is_flag
segments_no_flag = refl

pub materials_no_flag : is_flag materials_word ≡ false
unfolding materials_word is_flag
materials_no_flag = refl

-- ---- flags

size_good : (before : Option Dec) (at : ℕ) (given : Given Dec) → IsGood given → size_after before at given ≡ Ok (latest before given)
size_good before at Nothing good = refl
size_good before at (Value x) good = refl
size_good before at Bad good = absurd good

number_good : (before : Option ℕ) (at : ℕ) (given : Given ℕ) → IsGood given → number_after before at given ≡ Ok (latest before given)
number_good before at Nothing good = refl
number_good before at (Value x) good = refl
number_good before at Bad good = absurd good

-- ---- points

-- a step that goes on
pub steps_one : (strict : Bool) (d next : Draft) (at : ℕ) (word : Word) (words : List Word) → step strict d at word ≡ Ok next → steps strict d at (word ∷ words) ≡ steps strict next (at + 1) words
unfolding steps
steps_one strict d next at word words e = ap (λ (r : Step). r >>= λ n. steps strict n (at + 1) words) e

-- s stands at the start of a row of the points, and c is what has been read there
pub record AtPoints (strict : Bool) (s c : Draft) : Type 0 where
  pub row : (at n : ℕ) (word : Word) → whole_of word 999999 ≡ Some n → step strict s at word ≡ new_point strict c at n
  pub section : (at : ℕ) → step strict s at segments_word ≡ Ok (at_spot c (InSegments segments.Start))

point_begins : (strict : Bool) (d : Draft) (at n : ℕ) (word : Word) → whole_of word 999999 ≡ Some n → point_start strict d at word ≡ new_point strict d at n
unfolding point_start
point_begins strict d at n word e =
    let other = other_word word segments_word (whole_digits word 999999 n e) segments_no_digits in
    rw (other, e) refl

point_ends : (strict : Bool) (d : Draft) (at : ℕ) → point_start strict d at segments_word ≡ Ok (at_spot d (InSegments segments.Start))
unfolding point_start
point_ends strict d at = rw (same_word segments_word) refl

pub at_first_point : (strict : Bool) (d : Draft) → AtPoints strict (at_spot d (InPoints points.Start)) d
unfolding spot_step point_step new_point point_start
at_first_point strict d = record { row = λ at n word e. point_begins strict d at n word e; section = λ at. point_ends strict d at }

pub at_next_point : (strict : Bool) (d : Draft) (row : PointRow) → AtPoints strict (at_spot d (InPoints (points.End row))) (with_point d row)
unfolding spot_step point_step new_point point_start
at_next_point strict d row = record {
  row = λ at n word e. let none = digits_no_flag word (whole_digits word 999999 n e) in rw none (point_begins strict (with_point d row) at n word e);
  section = λ at. rw segments_no_flag (point_ends strict (with_point d row) at);
}

point_flag_step : (strict : Bool) (d : Draft) (row : PointRow) (at : ℕ) (word : Word) → IsSizeFlag word → step strict (at_spot d (InPoints (points.End row))) at word ≡ Ok (at_spot d (InPoints (points.End (sized_point row (latest row.maxh (size_in word))))))
unfolding spot_step point_step point_flag
point_flag_step strict d row at word good = rw (good.0, size_good row.maxh at (size_in word) good.1) refl

point_flags : (strict : Bool) (d : Draft) (row : PointRow) (at : ℕ) (flags rest : List Word) → AllByRecursion IsSizeFlag flags
    → (later : ℕ) × (steps strict (at_spot d (InPoints (points.End row))) at (flags ++ rest) ≡ steps strict (at_spot d (InPoints (points.End (sized_point row (last_value size_in row.maxh flags))))) later rest)
point_flags strict d row at [] rest good = (at, refl)
point_flags strict d row at (flag ∷ flags) rest good =
    let next = sized_point row (latest row.maxh (size_in flag)) in
    let others = point_flags strict d next (at + 1) flags rest good.1 in
    (others.0, steps_one strict (at_spot d (InPoints (points.End row))) (at_spot d (InPoints (points.End next))) at flag (flags ++ rest) (point_flag_step strict d row at flag good.0) ∙ others.1)

pub point_x_step : (strict : Bool) (d : Draft) (n at : ℕ) (word : Word) (x : Dec) → decimal_of word ≡ Some x → step strict (at_spot d (InPoints (points.X n))) at word ≡ Ok (at_spot d (InPoints (points.Y n x)))
unfolding spot_step point_step
point_x_step strict d n at word x e = rw e refl

pub point_y_step : (strict : Bool) (d : Draft) (n : ℕ) (x y : Dec) (at : ℕ) (word : Word) → decimal_of word ≡ Some y → step strict (at_spot d (InPoints (points.Y n x))) at word ≡ Ok (at_spot d (InPoints (points.End (new_point_row n x y))))
unfolding spot_step point_step
point_y_step strict d n x y at word e = rw e refl

-- a row that may begin is read
point_row : (strict : Bool) (s c : Draft) (at : ℕ) (text : PointText) (row : PointRow) (rest : List Word) → step strict s at text.number ≡ Ok (at_spot c (InPoints (points.X row.number))) → IsPoint text row
    → (later : ℕ) × (steps strict s at (text.number ∷ text.x ∷ text.y ∷ (text.flags ++ rest)) ≡ steps strict (at_spot c (InPoints (points.End row))) later rest)
point_row strict s c at text row rest first is =
    let n = row.number in
    let flags = point_flags strict c (new_point_row n row.x row.y) (at + 1 + 1 + 1) text.flags rest is.flags in
    let sized : steps strict (at_spot c (InPoints (points.End (sized_point (new_point_row n row.x row.y) (last_value size_in None text.flags))))) flags.0 rest ≡ steps strict (at_spot c (InPoints (points.End row))) flags.0 rest =
    ap (λ (m : Option Dec). steps strict (at_spot c (InPoints (points.End (sized_point row m)))) flags.0 rest) (sym is.maxh) in (
      flags.0,
      steps_one strict s (at_spot c (InPoints (points.X n))) at text.number (text.x ∷ text.y ∷ (text.flags ++ rest)) first
          ∙ steps_one strict (at_spot c (InPoints (points.X n))) (at_spot c (InPoints (points.Y n row.x))) (at + 1) text.x (text.y ∷ (text.flags ++ rest)) (point_x_step strict c n (at + 1) text.x row.x is.x)
          ∙ steps_one strict (at_spot c (InPoints (points.Y n row.x))) (at_spot c (InPoints (points.End (new_point_row n row.x row.y)))) (at + 1 + 1) text.y (text.flags ++ rest) (point_y_step strict c n row.x row.y (at + 1 + 1) text.y is.y)
          ∙ flags.1 ∙ sized,
    )

-- there is room for these rows behind those before them
abbrev pub PointRooms : Bool → List PointRow → List PointRow → Type 0
PointRooms strict before [] = Unit {0}
PointRooms strict before (row ∷ rows) = ((strict && nat_le 4096 (length before)) ≡ false) × ((strict && is_known row.number before) ≡ false) × PointRooms strict (before ++ row ∷ []) rows

room_for_point : (strict : Bool) (d : Draft) (at n : ℕ) → (strict && nat_le 4096 (length d.points)) ≡ false → (strict && is_known n d.points) ≡ false → new_point strict d at n ≡ Ok (at_spot d (InPoints (points.X n)))
unfolding new_point
room_for_point strict d at n few new = rw (few, new) refl

abbrev pub with_points : Draft → List PointRow → Draft
with_points d rows = record { number = d.number; points = d.points ++ rows; segments = d.segments; materials = d.materials; spot = d.spot }

regroup : (text : PointText) (texts : List PointText) (rest : List Word) → flat_map point_words (text ∷ texts) ++ rest ≡ text.number ∷ text.x ∷ text.y ∷ (text.flags ++ (flat_map point_words texts ++ rest))
regroup text texts rest = ap (λ (w : List Word). text.number ∷ text.x ∷ text.y ∷ w) (append_assoc text.flags (flat_map point_words texts) rest)

point_rows : (strict : Bool) (s c : Draft) (at : ℕ) (texts : List PointText) (rows : List PointRow) (rest : List Word) → AtPoints strict s c → Each IsPoint texts rows → PointRooms strict c.points rows
    → (later : ℕ) × (steps strict s at (flat_map point_words texts ++ (segments_word ∷ rest)) ≡ steps strict (at_spot (with_points c rows) (InSegments segments.Start)) later rest)
point_rows strict s c at [] [] rest here each rooms =
    let same : c.points ≡ c.points ++ [] = sym (append-nil c.points) in
    (at + 1, steps_one strict s (at_spot c (InSegments segments.Start)) at segments_word rest (here.section at) ∙ ap (λ (ps : List PointRow). steps strict (record { number = c.number; points = ps; segments = c.segments; materials = c.materials; spot = InSegments segments.Start }) (at + 1) rest) same)
point_rows strict s c at [] (row ∷ rows) rest here each rooms = absurd each
point_rows strict s c at (text ∷ texts) [] rest here each rooms = absurd each
point_rows strict s c at (text ∷ texts) (row ∷ rows) rest here each rooms =
    let first = here.row at row.number text.number each.0.number ∙ room_for_point strict c at row.number rooms.0 rooms.1 in
    let one = point_row strict s c at text row (flat_map point_words texts ++ (segments_word ∷ rest)) first each.0 in
    let others = point_rows strict (at_spot c (InPoints (points.End row))) (with_point c row) one.0 texts rows rest (at_next_point strict c row) each.1 rooms.2 in
    let same : c.points ++ row ∷ [] ++ rows ≡ c.points ++ (row ∷ rows) = append_assoc c.points (row ∷ []) rows in (
      others.0,
      ap (λ (w : List Word). steps strict s at w) (regroup text texts (segments_word ∷ rest)) ∙ one.1 ∙ others.1
          ∙ ap (λ (ps : List PointRow). steps strict (record { number = c.number; points = ps; segments = c.segments; materials = c.materials; spot = InSegments segments.Start }) others.0 rest) same,
    )

point_begun : (strict : Bool) (s c last : Draft) (at : ℕ) (text : PointText) (row : PointRow) (words : List Word) → AtPoints strict s c → IsPoint text row → steps strict s at (text.number ∷ words) ≡ Ok last
    → (new_point strict c at row.number ≡ Ok (at_spot c (InPoints (points.X row.number)))) × ((strict && nat_le 4096 (length c.points)) ≡ false) × ((strict && is_known row.number c.points) ≡ false)
unfolding steps new_point
point_begun strict s c last at text row words here is e =
    let b = bind_ok (step strict s at text.number) (λ next. steps strict next (at + 1) words) last e in
    let begun : new_point strict c at row.number ≡ Ok b.0 = sym (here.row at row.number text.number is.number) ∙ b.1 in
    let few = guard_ok (strict && nat_le 4096 (length c.points)) (TooMany 1) (cond (strict && is_known row.number c.points) (Err (NumberTwice at)) (Ok (at_spot c (InPoints (points.X row.number))))) b.0 begun in
    let new = guard_ok (strict && is_known row.number c.points) (NumberTwice at) (Ok (at_spot c (InPoints (points.X row.number)))) b.0 few.1 in
    (begun ∙ sym new.1, few.0, new.0)

-- where the rows are read there was room for them
point_rooms : (strict : Bool) (s c last : Draft) (at : ℕ) (texts : List PointText) (rows : List PointRow) (rest : List Word) → AtPoints strict s c → Each IsPoint texts rows
    → steps strict s at (flat_map point_words texts ++ (segments_word ∷ rest)) ≡ Ok last → PointRooms strict c.points rows
point_rooms strict s c last at [] [] rest here each e = tt
point_rooms strict s c last at [] (row ∷ rows) rest here each e = absurd each
point_rooms strict s c last at (text ∷ texts) [] rest here each e = absurd each
point_rooms strict s c last at (text ∷ texts) (row ∷ rows) rest here each e =
    let more = flat_map point_words texts ++ (segments_word ∷ rest) in
    let begun : new_point strict c at row.number ≡ Ok (at_spot c (InPoints (points.X row.number))) × ((strict && nat_le 4096 (length c.points)) ≡ false) × ((strict && is_known row.number c.points) ≡ false) =
    point_begun strict s c last at text row (text.x ∷ text.y ∷ (text.flags ++ more)) here each.0 (sym (ap (λ (w : List Word). steps strict s at w) (regroup text texts (segments_word ∷ rest))) ∙ e) in
    let one = point_row strict s c at text row more (here.row at row.number text.number each.0.number ∙ begun.0) each.0 in
    let on : steps strict (at_spot c (InPoints (points.End row))) one.0 more ≡ Ok last = sym one.1 ∙ sym (ap (λ (w : List Word). steps strict s at w) (regroup text texts (segments_word ∷ rest))) ∙ e in
    (begun.1, begun.2, point_rooms strict (at_spot c (InPoints (points.End row))) (with_point c row) last one.0 texts rows rest (at_next_point strict c row) each.1 on)

-- ---- segments

pub record AtSegments (strict : Bool) (s c : Draft) : Type 0 where
  pub row : (at left : ℕ) (word : Word) → whole_of word 64 ≡ Some left → step strict s at word ≡ new_segment strict c left
  pub section : (at : ℕ) → step strict s at materials_word ≡ Ok (at_spot c (InMaterials NoMaterial))
  pub finish : (at : ℕ) → finish s at ≡ Ok (whole_raw c)

segment_begins : (strict : Bool) (d : Draft) (at left : ℕ) (word : Word) → whole_of word 64 ≡ Some left → segment_start strict d at word ≡ new_segment strict d left
unfolding segment_start
segment_begins strict d at left word e =
    let other = other_word word materials_word (whole_digits word 64 left e) materials_no_digits in
    rw (other, e) refl

segment_ends : (strict : Bool) (d : Draft) (at : ℕ) → segment_start strict d at materials_word ≡ Ok (at_spot d (InMaterials NoMaterial))
unfolding segment_start
segment_ends strict d at = rw (same_word materials_word) refl

pub at_first_segment : (strict : Bool) (d : Draft) → AtSegments strict (at_spot d (InSegments segments.Start)) d
unfolding spot_step segment_step new_segment segment_start finish finish_spot
at_first_segment strict d = record { row = λ at left word e. segment_begins strict d at left word e; section = λ at. segment_ends strict d at; finish = λ at. refl }

pub at_next_segment : (strict : Bool) (d : Draft) (row : SegmentRow) → AtSegments strict (at_spot d (InSegments (segments.End row))) (with_segment d row)
unfolding spot_step segment_step new_segment segment_start finish finish_spot
at_next_segment strict d row = record {
  row = λ at left word e. let none = digits_no_flag word (whole_digits word 64 left e) in rw none (segment_begins strict (with_segment d row) at left word e);
  section = λ at. rw materials_no_flag (segment_ends strict (with_segment d row) at);
  finish = λ at. refl;
}

segment_flag_step : (strict : Bool) (d : Draft) (row : SegmentRow) (at : ℕ) (word : Word) → IsSegmentFlag word
    → step strict (at_spot d (InSegments (segments.End row))) at word ≡ Ok (at_spot d (InSegments (segments.End (flagged_segment row (latest row.bc (number_in word)) (latest row.maxh (size_in word))))))
unfolding spot_step segment_step segment_flag
segment_flag_step strict d row at word good = rw (good.0, number_good row.bc at (number_in word) good.1, size_good row.maxh at (size_in word) good.2) refl

segment_flags : (strict : Bool) (d : Draft) (row : SegmentRow) (at : ℕ) (flags rest : List Word) → AllByRecursion IsSegmentFlag flags
    → (later : ℕ) × (steps strict (at_spot d (InSegments (segments.End row))) at (flags ++ rest) ≡ steps strict (at_spot d (InSegments (segments.End (flagged_segment row (last_value number_in row.bc flags) (last_value size_in row.maxh flags))))) later rest)
segment_flags strict d row at [] rest good = (at, refl)
segment_flags strict d row at (flag ∷ flags) rest good =
    let next = flagged_segment row (latest row.bc (number_in flag)) (latest row.maxh (size_in flag)) in
    let others = segment_flags strict d next (at + 1) flags rest good.1 in
    (others.0, steps_one strict (at_spot d (InSegments (segments.End row))) (at_spot d (InSegments (segments.End next))) at flag (flags ++ rest) (segment_flag_step strict d row at flag good.0) ∙ others.1)

pub right_step : (strict : Bool) (d : Draft) (left at right : ℕ) (word : Word) → whole_of word 64 ≡ Some right → step strict (at_spot d (InSegments (segments.Right left))) at word ≡ Ok (at_spot d (InSegments (segments.Shape left right)))
unfolding spot_step segment_step
right_step strict d left at right word e = rw e refl

pub two_step : (strict : Bool) (d : Draft) (left right at : ℕ) → step strict (at_spot d (InSegments (segments.Shape left right))) at two_word ≡ Ok (at_spot d (InSegments (segments.From left right)))
unfolding spot_step segment_step shape_step
two_step strict d left right at = rw (same_word two_word) refl

pub from_step : (strict : Bool) (d : Draft) (left right at p : ℕ) (word : Word) → whole_of word 999999 ≡ Some p → step strict (at_spot d (InSegments (segments.From left right))) at word ≡ Ok (at_spot d (InSegments (segments.To left right p)))
unfolding spot_step segment_step
from_step strict d left right at p word e = rw e refl

pub to_step : (strict : Bool) (d : Draft) (left right p at q : ℕ) (word : Word) → whole_of word 999999 ≡ Some q → step strict (at_spot d (InSegments (segments.To left right p))) at word ≡ Ok (at_spot d (InSegments (segments.End (new_segment_row left right p q))))
unfolding spot_step segment_step
to_step strict d left right p at q word e = rw e refl

segment_row : (strict : Bool) (s c : Draft) (at : ℕ) (text : SegmentText) (row : SegmentRow) (rest : List Word) → step strict s at text.left ≡ Ok (at_spot c (InSegments (segments.Right row.left))) → IsSegment text row
    → (later : ℕ) × (steps strict s at (text.left ∷ text.right ∷ two_word ∷ text.from ∷ text.to ∷ (text.flags ++ rest)) ≡ steps strict (at_spot c (InSegments (segments.End row))) later rest)
segment_row strict s c at text row rest first is =
    let new = new_segment_row row.left row.right row.p row.q in
    let at_right = at_spot c (InSegments (segments.Right row.left)) in
    let at_shape = at_spot c (InSegments (segments.Shape row.left row.right)) in
    let at_from = at_spot c (InSegments (segments.From row.left row.right)) in
    let at_to = at_spot c (InSegments (segments.To row.left row.right row.p)) in
    let at_end = at_spot c (InSegments (segments.End new)) in
    let flags = segment_flags strict c new (at + 1 + 1 + 1 + 1 + 1) text.flags rest is.flags in
    let sized : steps strict (at_spot c (InSegments (segments.End (flagged_segment new (last_value number_in None text.flags) (last_value size_in None text.flags))))) flags.0 rest ≡ steps strict (at_spot c (InSegments (segments.End row))) flags.0 rest =
    ap (λ (m : Option ℕ). steps strict (at_spot c (InSegments (segments.End (flagged_segment new m (last_value size_in None text.flags))))) flags.0 rest) (sym is.bc)
    ∙ ap (λ (m : Option Dec). steps strict (at_spot c (InSegments (segments.End (flagged_segment new row.bc m)))) flags.0 rest) (sym is.maxh) in (
      flags.0,
      steps_one strict s at_right at text.left (text.right ∷ two_word ∷ text.from ∷ text.to ∷ (text.flags ++ rest)) first
          ∙ steps_one strict at_right at_shape (at + 1) text.right (two_word ∷ text.from ∷ text.to ∷ (text.flags ++ rest)) (right_step strict c row.left (at + 1) row.right text.right is.right)
          ∙ steps_one strict at_shape at_from (at + 1 + 1) two_word (text.from ∷ text.to ∷ (text.flags ++ rest)) (two_step strict c row.left row.right (at + 1 + 1))
          ∙ steps_one strict at_from at_to (at + 1 + 1 + 1) text.from (text.to ∷ (text.flags ++ rest)) (from_step strict c row.left row.right (at + 1 + 1 + 1) row.p text.from is.from)
          ∙ steps_one strict at_to at_end (at + 1 + 1 + 1 + 1) text.to (text.flags ++ rest) (to_step strict c row.left row.right row.p (at + 1 + 1 + 1 + 1) row.q text.to is.to)
          ∙ flags.1 ∙ sized,
    )

abbrev pub SegmentRooms : Bool → List SegmentRow → List SegmentRow → Type 0
SegmentRooms strict before [] = Unit {0}
SegmentRooms strict before (row ∷ rows) = ((strict && nat_le 4096 (length before)) ≡ false) × SegmentRooms strict (before ++ row ∷ []) rows

room_for_segment : (strict : Bool) (d : Draft) (left : ℕ) → (strict && nat_le 4096 (length d.segments)) ≡ false → new_segment strict d left ≡ Ok (at_spot d (InSegments (segments.Right left)))
unfolding new_segment
room_for_segment strict d left few = rw few refl

abbrev pub with_segments : Draft → List SegmentRow → Draft
with_segments d rows = record { number = d.number; points = d.points; segments = d.segments ++ rows; materials = d.materials; spot = d.spot }

regroup_segment : (text : SegmentText) (texts : List SegmentText) (rest : List Word) → flat_map segment_words (text ∷ texts) ++ rest ≡ text.left ∷ text.right ∷ two_word ∷ text.from ∷ text.to ∷ (text.flags ++ (flat_map segment_words texts ++ rest))
regroup_segment text texts rest = ap (λ (w : List Word). text.left ∷ text.right ∷ two_word ∷ text.from ∷ text.to ∷ w) (append_assoc text.flags (flat_map segment_words texts) rest)

-- the rows of the segments are read, up to a row's start
record SegmentsDone (strict : Bool) (s c : Draft) (at : ℕ) (words rest : List Word) : Type 0 where
  later : ℕ
  next : Draft
  here : AtSegments strict next c
  same : steps strict s at words ≡ steps strict next later rest

segment_rows : (strict : Bool) (s c : Draft) (at : ℕ) (texts : List SegmentText) (rows : List SegmentRow) (rest : List Word) → AtSegments strict s c → Each IsSegment texts rows → SegmentRooms strict c.segments rows
    → SegmentsDone strict s (with_segments c rows) at (flat_map segment_words texts ++ rest) rest
segment_rows strict s c at [] [] rest here each rooms =
    let same : c.segments ≡ c.segments ++ [] = sym (append-nil c.segments) in
    record { later = at; next = s; here = subst (λ (rows : List SegmentRow). AtSegments strict s (record { number = c.number; points = c.points; segments = rows; materials = c.materials; spot = c.spot })) same here; same = refl }
segment_rows strict s c at [] (row ∷ rows) rest here each rooms = absurd each
segment_rows strict s c at (text ∷ texts) [] rest here each rooms = absurd each
segment_rows strict s c at (text ∷ texts) (row ∷ rows) rest here each rooms =
    let more = flat_map segment_words texts ++ rest in
    let first = here.row at row.left text.left each.0.left ∙ room_for_segment strict c row.left rooms.0 in
    let one = segment_row strict s c at text row more first each.0 in
    let others = segment_rows strict (at_spot c (InSegments (segments.End row))) (with_segment c row) one.0 texts rows rest (at_next_segment strict c row) each.1 rooms.1 in
    let same : c.segments ++ row ∷ [] ++ rows ≡ c.segments ++ (row ∷ rows) = append_assoc c.segments (row ∷ []) rows in
    record {
      later = others.later;
      next = others.next;
      here = subst (λ (ss : List SegmentRow). AtSegments strict others.next (record { number = c.number; points = c.points; segments = ss; materials = c.materials; spot = c.spot })) same others.here;
      same = ap (λ (w : List Word). steps strict s at w) (regroup_segment text texts rest) ∙ one.1 ∙ others.same;
    }

segment_begun : (strict : Bool) (s c last : Draft) (at : ℕ) (text : SegmentText) (row : SegmentRow) (words : List Word) → AtSegments strict s c → IsSegment text row → steps strict s at (text.left ∷ words) ≡ Ok last
    → (new_segment strict c row.left ≡ Ok (at_spot c (InSegments (segments.Right row.left)))) × ((strict && nat_le 4096 (length c.segments)) ≡ false)
unfolding steps new_segment
segment_begun strict s c last at text row words here is e =
    let b = bind_ok (step strict s at text.left) (λ next. steps strict next (at + 1) words) last e in
    let begun : new_segment strict c row.left ≡ Ok b.0 = sym (here.row at row.left text.left is.left) ∙ b.1 in
    let few = guard_ok (strict && nat_le 4096 (length c.segments)) (TooMany 2) (Ok (at_spot c (InSegments (segments.Right row.left)))) b.0 begun in
    (begun ∙ sym few.1, few.0)

segment_rooms : (strict : Bool) (s c last : Draft) (at : ℕ) (texts : List SegmentText) (rows : List SegmentRow) (rest : List Word) → AtSegments strict s c → Each IsSegment texts rows
    → steps strict s at (flat_map segment_words texts ++ rest) ≡ Ok last → SegmentRooms strict c.segments rows
segment_rooms strict s c last at [] [] rest here each e = tt
segment_rooms strict s c last at [] (row ∷ rows) rest here each e = absurd each
segment_rooms strict s c last at (text ∷ texts) [] rest here each e = absurd each
segment_rooms strict s c last at (text ∷ texts) (row ∷ rows) rest here each e =
    let more = flat_map segment_words texts ++ rest in
    let begun = segment_begun strict s c last at text row (text.right ∷ two_word ∷ text.from ∷ text.to ∷ (text.flags ++ more)) here each.0 (sym (ap (λ (w : List Word). steps strict s at w) (regroup_segment text texts rest)) ∙ e) in
    let one = segment_row strict s c at text row more (here.row at row.left text.left each.0.left ∙ begun.0) each.0 in
    let on : steps strict (at_spot c (InSegments (segments.End row))) one.0 more ≡ Ok last = sym one.1 ∙ sym (ap (λ (w : List Word). steps strict s at w) (regroup_segment text texts rest)) ∙ e in
    (begun.1, segment_rooms strict (at_spot c (InSegments (segments.End row))) (with_segment c row) last one.0 texts rows rest (at_next_segment strict c row) each.1 on)

-- ---- materials

record AtMaterials (strict : Bool) (s c : Draft) : Type 0 where
  row : (at domain : ℕ) (word : Word) → from_one (whole_of word 64) ≡ Some domain → step strict s at word ≡ Ok (at_spot c (InMaterials (MaterialName domain)))
  finish : (at : ℕ) → finish s at ≡ Ok (whole_raw c)

from_one_is : (o : Option ℕ) (n : ℕ) → from_one o ≡ Some n → o ≡ Some n
from_one_is None n e = absurd cc
from_one_is (Some zero) n e = absurd cc
from_one_is (Some (suc m)) n e = e

material_begins : (d : Draft) (at domain : ℕ) (word : Word) → from_one (whole_of word 64) ≡ Some domain → material_start d at word ≡ Ok (at_spot d (InMaterials (MaterialName domain)))
unfolding material_start
material_begins d at domain word e = ap (λ (o : Option ℕ). or_else o (Syntax at) >>= λ n. Ok (at_spot d (InMaterials (MaterialName n)))) e

at_first_material : (strict : Bool) (d : Draft) → AtMaterials strict (at_spot d (InMaterials NoMaterial)) d
unfolding spot_step material_step material_start finish finish_spot
at_first_material strict d = record { row = λ at domain word e. material_begins d at domain word e; finish = λ at. refl }

at_next_material : (strict : Bool) (d : Draft) (row : MaterialRow) → AtMaterials strict (at_spot d (InMaterials (MaterialEnd row))) (with_material d row)
unfolding spot_step material_step material_start finish finish_spot
at_next_material strict d row = record {
  row = λ at domain word e. let none = digits_no_flag word (whole_digits word 64 domain (from_one_is (whole_of word 64) domain e)) in rw none (material_begins (with_material d row) at domain word e);
  finish = λ at. refl;
}

material_flag_step : (strict : Bool) (d : Draft) (row : MaterialRow) (at : ℕ) (word : Word) → IsSizeFlag word → step strict (at_spot d (InMaterials (MaterialEnd row))) at word ≡ Ok (at_spot d (InMaterials (MaterialEnd (sized_material row (latest row.maxh (size_in word))))))
unfolding spot_step material_step material_flag
material_flag_step strict d row at word good = rw (good.0, size_good row.maxh at (size_in word) good.1) refl

material_flags : (strict : Bool) (d : Draft) (row : MaterialRow) (at : ℕ) (flags rest : List Word) → AllByRecursion IsSizeFlag flags
    → (later : ℕ) × (steps strict (at_spot d (InMaterials (MaterialEnd row))) at (flags ++ rest) ≡ steps strict (at_spot d (InMaterials (MaterialEnd (sized_material row (last_value size_in row.maxh flags))))) later rest)
material_flags strict d row at [] rest good = (at, refl)
material_flags strict d row at (flag ∷ flags) rest good =
    let next = sized_material row (latest row.maxh (size_in flag)) in
    let others = material_flags strict d next (at + 1) flags rest good.1 in
    (others.0, steps_one strict (at_spot d (InMaterials (MaterialEnd row))) (at_spot d (InMaterials (MaterialEnd next))) at flag (flags ++ rest) (material_flag_step strict d row at flag good.0) ∙ others.1)

pub name_step : (strict : Bool) (d : Draft) (domain at : ℕ) (word : Word) → is_name word ≡ true → step strict (at_spot d (InMaterials (MaterialName domain))) at word ≡ Ok (at_spot d (InMaterials (MaterialEnd (new_material_row domain word))))
unfolding spot_step material_step
name_step strict d domain at word e = rw e refl

material_row : (strict : Bool) (s c : Draft) (at : ℕ) (text : MaterialText) (row : MaterialRow) (rest : List Word) → AtMaterials strict s c → IsMaterial text row
    → (later : ℕ) × (steps strict s at (text.domain ∷ text.name ∷ (text.flags ++ rest)) ≡ steps strict (at_spot c (InMaterials (MaterialEnd row))) later rest)
material_row strict s c at text row rest here is =
    let new = new_material_row row.domain text.name in
    let at_name = at_spot c (InMaterials (MaterialName row.domain)) in
    let at_end = at_spot c (InMaterials (MaterialEnd new)) in
    let flags = material_flags strict c new (at + 1 + 1) text.flags rest is.flags in
    let sized : steps strict (at_spot c (InMaterials (MaterialEnd (sized_material new (last_value size_in None text.flags))))) flags.0 rest ≡ steps strict (at_spot c (InMaterials (MaterialEnd row))) flags.0 rest =
    ap (λ (m : Option Dec). steps strict (at_spot c (InMaterials (MaterialEnd (sized_material new m)))) flags.0 rest) (sym is.maxh)
    ∙ ap (λ (name : Word). steps strict (at_spot c (InMaterials (MaterialEnd (record { domain = row.domain; name = name; maxh = row.maxh })))) flags.0 rest) (sym is.called) in (
      flags.0,
      steps_one strict s at_name at text.domain (text.name ∷ (text.flags ++ rest)) (here.row at row.domain text.domain is.domain)
          ∙ steps_one strict at_name at_end (at + 1) text.name (text.flags ++ rest) (name_step strict c row.domain (at + 1) text.name is.name)
          ∙ flags.1 ∙ sized,
    )

abbrev pub with_materials : Draft → List MaterialRow → Draft
with_materials d rows = record { number = d.number; points = d.points; segments = d.segments; materials = d.materials ++ rows; spot = d.spot }

-- everything is read, and the text may end
pub record AllDone (strict : Bool) (s : Draft) (at : ℕ) (words : List Word) (raw : RawGeometry) : Type 0 where
  pub last : Draft
  pub read : steps strict s at words ≡ Ok last
  pub finish : (end : ℕ) → finish last end ≡ Ok raw

no_more : (strict : Bool) (s : Draft) (at : ℕ) → steps strict s at [] ≡ Ok s
unfolding steps
no_more strict s at = refl

material_rows : (strict : Bool) (s c : Draft) (at : ℕ) (texts : List MaterialText) (rows : List MaterialRow) → AtMaterials strict s c → Each IsMaterial texts rows
    → AllDone strict s at (flat_map material_words texts) (whole_raw (with_materials c rows))
material_rows strict s c at [] [] here each =
    let same : c.materials ≡ c.materials ++ [] = sym (append-nil c.materials) in
    record { last = s; read = no_more strict s at; finish = λ end. here.finish end ∙ ap (λ (ms : List MaterialRow). done {A = RawGeometry} (record { number = c.number; points = c.points; segments = c.segments; materials = ms })) same }
material_rows strict s c at [] (row ∷ rows) here each = absurd each
material_rows strict s c at (text ∷ texts) [] here each = absurd each
material_rows strict s c at (text ∷ texts) (row ∷ rows) here each =
    let one = material_row strict s c at text row (flat_map material_words texts) here each.0 in
    let others = material_rows strict (at_spot c (InMaterials (MaterialEnd row))) (with_material c row) one.0 texts rows (at_next_material strict c row) each.1 in
    let same : c.materials ++ row ∷ [] ++ rows ≡ c.materials ++ (row ∷ rows) = append_assoc c.materials (row ∷ []) rows in
    record {
      last = others.last;
      read = one.1 ∙ others.read;
      finish = λ end. others.finish end ∙ ap (λ (ms : List MaterialRow). done {A = RawGeometry} (record { number = c.number; points = c.points; segments = c.segments; materials = ms })) same;
    }

materials_done : (strict : Bool) (s c : Draft) (at : ℕ) (part : Option (List MaterialText)) (rows : List MaterialRow) → AtSegments strict s c → c.materials ≡ [] → Each IsMaterial (material_texts part) rows
    → AllDone strict s at (materials_part part) (record { number = c.number; points = c.points; segments = c.segments; materials = rows })
materials_done strict s c at None [] here none each =
    record { last = s; read = no_more strict s at; finish = λ end. here.finish end ∙ ap (λ (ms : List MaterialRow). done {A = RawGeometry} (record { number = c.number; points = c.points; segments = c.segments; materials = ms })) none }
materials_done strict s c at None (row ∷ rows) here none each = absurd each
materials_done strict s c at (Some texts) rows here none each =
    let others = material_rows strict (at_spot c (InMaterials NoMaterial)) c (at + 1) texts rows (at_first_material strict c) each in
    record {
      last = others.last;
      read = steps_one strict s (at_spot c (InMaterials NoMaterial)) at materials_word (flat_map material_words texts) (here.section at) ∙ others.read;
      finish = λ end. others.finish end ∙ ap (λ (ms : List MaterialRow). done {A = RawGeometry} (record { number = c.number; points = c.points; segments = c.segments; materials = ms ++ rows })) none;
    }

-- ---- the whole

head_first : (strict : Bool) (at : ℕ) → step strict nothing_read at head_word ≡ Ok (at_spot nothing_read (InHead heads.Number))
unfolding spot_step head_step
head_first strict at = rw (same_word head_word) refl

head_number : (strict : Bool) (at : ℕ) (word : Word) (number : Dec) → decimal_of word ≡ Some number → step strict (at_spot nothing_read (InHead heads.Number)) at word ≡ Ok (at_spot (with_number nothing_read number) (InHead heads.Points))
unfolding spot_step head_step
head_number strict at word number e = rw e refl

head_points : (strict : Bool) (at : ℕ) (number : Dec) → step strict (at_spot (with_number nothing_read number) (InHead heads.Points)) at points_word ≡ Ok (at_spot (with_number nothing_read number) (InPoints points.Start))
unfolding spot_step head_step
head_points strict at number = rw (same_word points_word) refl

head_read : (strict : Bool) (word : Word) (number : Dec) (rest : List Word) → decimal_of word ≡ Some number → steps strict nothing_read 1 (head_word ∷ word ∷ points_word ∷ rest) ≡ steps strict (at_spot (with_number nothing_read number) (InPoints points.Start)) (1 + 1 + 1 + 1) rest
head_read strict word number rest e =
    steps_one strict nothing_read (at_spot nothing_read (InHead heads.Number)) 1 head_word (word ∷ points_word ∷ rest) (head_first strict 1)
    ∙ steps_one strict (at_spot nothing_read (InHead heads.Number)) (at_spot (with_number nothing_read number) (InHead heads.Points)) (1 + 1) word (points_word ∷ rest) (head_number strict (1 + 1) word number e)
    ∙ steps_one strict (at_spot (with_number nothing_read number) (InHead heads.Points)) (at_spot (with_number nothing_read number) (InPoints points.Start)) (1 + 1 + 1) points_word rest (head_points strict (1 + 1 + 1) number)

-- what the grammar derives is read, where there is room for its rows
pub file_read : (strict : Bool) (text : FileText) (raw : RawGeometry) → IsFile text raw → PointRooms strict [] raw.points → SegmentRooms strict [] raw.segments → AllDone strict nothing_read 1 (file_words text) raw
file_read strict text raw is point_room segment_room =
    let d = with_number nothing_read raw.number in
    let rest = segments_part text.segments text.materials in
    let head = head_read strict text.number raw.number (points_part text.points text.segments text.materials) is.number in
    let ps = point_rows strict (at_spot d (InPoints points.Start)) d (1 + 1 + 1 + 1) text.points raw.points rest (at_first_point strict d) is.points point_room in
    let c = with_points d raw.points in
    let ss = segment_rows strict (at_spot c (InSegments segments.Start)) c ps.0 text.segments raw.segments (materials_part text.materials) (at_first_segment strict c) is.segments segment_room in
    let ms = materials_done strict ss.next (with_segments c raw.segments) ss.later text.materials raw.materials ss.here refl is.materials in
    record { last = ms.last; read = head ∙ ps.1 ∙ ss.same ∙ ms.read; finish = ms.finish }

-- where a derived text is read, there was room for its rows
pub file_rooms : (strict : Bool) (text : FileText) (raw : RawGeometry) (last : Draft) → IsFile text raw → steps strict nothing_read 1 (file_words text) ≡ Ok last → PointRooms strict [] raw.points × SegmentRooms strict [] raw.segments
file_rooms strict text raw last is e =
    let d = with_number nothing_read raw.number in
    let rest = segments_part text.segments text.materials in
    let head = head_read strict text.number raw.number (points_part text.points text.segments text.materials) is.number in
    let on : steps strict (at_spot d (InPoints points.Start)) (1 + 1 + 1 + 1) (points_part text.points text.segments text.materials) ≡ Ok last = sym head ∙ e in
    let point_room = point_rooms strict (at_spot d (InPoints points.Start)) d last (1 + 1 + 1 + 1) text.points raw.points rest (at_first_point strict d) is.points on in
    let ps = point_rows strict (at_spot d (InPoints points.Start)) d (1 + 1 + 1 + 1) text.points raw.points rest (at_first_point strict d) is.points point_room in
    let c = with_points d raw.points in
    let on2 : steps strict (at_spot c (InSegments segments.Start)) ps.0 rest ≡ Ok last = sym ps.1 ∙ on in
    (point_room, segment_rooms strict (at_spot c (InSegments segments.Start)) c last ps.0 text.segments raw.segments (materials_part text.materials) (at_first_segment strict c) is.segments on2)
