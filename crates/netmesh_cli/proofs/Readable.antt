-- A geometry that the reader gives is one that can be checked, and the options that words ask for are in their
-- ranges.
use Rattle.std.proofs.Common.{◌≡◌, ℕ, ◌+◌, ◌≤◌, ◌==◌, ◌||◌, Bool, true, false, List, [], ◌∷◌, ◌&&◌, nat_le, if◌then◌else◌, cond, refl, sym, subst, ap, ◌∙◌, arith, inl, inr}
use Rattle.std.specs.Prelude.{Option, None, Some, IsSome, IfSome, All, unsigned_abs, ℤ, pos, negsuc, ◌≤ℤ◌}
use Rattle.std.specs.List.{AllByRecursion, position_from}
use Rattle.std.proofs.lemmas.Int.{ints}
use Rattle.std.proofs.lemmas.Bool.Decides.{nat_tests}
use Rattle.std.proofs.lemmas.Bool.{cases_eq, eq-eqb, ne_eqb}
use Rattle.std.proofs.lemmas.List.Elements.{All-nil, All-cons}
use Rattle.word_scan.specs.declared.decimals.Dec.{Dec}
use Rattle.word_scan.specs.Decimals.{decimal_of}
use Rattle.word_scan.proofs.DecimalLaws.{decimal_found, decimal_is_small}
use Rattle.in2d_reader.specs.declared.geometry.PointRow.{PointRow}
use Rattle.in2d_reader.specs.declared.geometry.SegmentRow.{SegmentRow}
use Rattle.in2d_reader.specs.declared.geometry.MaterialRow.{MaterialRow}
use Rattle.in2d_reader.specs.declared.geometry.RawGeometry.{RawGeometry}
use Rattle.in2d_reader.specs.Grammar.{is_known, HasEnds}
use Rattle.in2d_reader.specs.Normal.{IsDec, IsPointRow, IsSegmentRow, IsMaterialRow, CanPrint}
use Rattle.geom_check.specs.Placed.{IsReadable, IsReadableNumber, IsReadablePoint, IsReadableSegment, IsReadableMaterial, IsReadableIfAny}
use Rattle.word_scan.specs.Numerals.{value_of, is_whole}
use Rattle.call_words.specs.CommandLine.{Given}
use Rattle.call_words.specs.Commands.{ViewOf, IsSize, IsWholeFrom, HasValue, AreOptions, IsCommand, task_of}
use Rattle.netmesh_cli.specs.Jobs.{AreInRange, AreFew}
use Rattle.call_words.specs.declared.command.MeshOptions.{MeshOptions}
use Rattle.call_words.specs.declared.command.MeshCall.{MeshCall}
use Rattle.call_words.specs.declared.command.Command.TheVariants as commands

scale_least : (z : ℤ) → unsigned_abs z ≤ 99 → negsuc 98 ≤ℤ z
scale_least z h = omega (arith, ints)

scale_greatest : (z : ℤ) → unsigned_abs z ≤ 99 → z ≤ℤ pos 99
scale_greatest z h = omega (arith, ints)

number_readable : (v : Dec) → IsDec v → IsReadableNumber v
number_readable v is = record { digits = is.digits; scale_least = scale_least v.scale is.scale; scale_greatest = scale_greatest v.scale is.scale }

size_readable : (v : Option Dec) → IfSome v IsDec → IsReadableIfAny v
size_readable None is = tt
size_readable (Some v) is = number_readable v is

-- a number that is known has a row
known_from : (rows : List PointRow) (n k : ℕ) → is_known n rows ≡ true → IsSome (position_from (λ row. row.number == n) k rows)
known_from [] n k known = absurd (cc)
known_from (row ∷ rows) n k known = elim (cases_eq n row.number) [
  | inl e ↦ rw (eq-eqb row.number n (sym e)) refl
  | inr ne ↦ by (row.number == n) _ (known_from rows n (k + 1) (sym (ap (λ (b : Bool). b || is_known n rows) (ne_eqb n row.number ne)) ∙ known))
]
  where
    by : (b : Bool) (later : Option ℕ) → IsSome later → IsSome (cond b (Some k) later)
    by true later h = refl
    by false later h = h

all_points : (rows : List PointRow) → AllByRecursion IsPointRow rows → All IsReadablePoint rows
all_points [] are = All-nil IsReadablePoint
all_points (row ∷ rows) are = All-cons IsReadablePoint row rows (record { x = number_readable row.x are.0.x; y = number_readable row.y are.0.y; maxh = size_readable row.maxh are.0.maxh }) (all_points rows are.1)

all_segments : (points : List PointRow) (rows : List SegmentRow) → AllByRecursion IsSegmentRow rows → AllByRecursion (HasEnds points) rows → All (IsReadableSegment points) rows
all_segments points [] are have = All-nil (IsReadableSegment points)
all_segments points (row ∷ rows) are have = All-cons (IsReadableSegment points) row rows (record { p_known = known_from points row.p 1 have.0.0; q_known = known_from points row.q 1 have.0.1; bc = are.0.bc; maxh = size_readable row.maxh are.0.maxh; left = are.0.left; right = are.0.right }) (all_segments points rows are.1 have.1)

all_materials : (rows : List MaterialRow) → AllByRecursion IsMaterialRow rows → All IsReadableMaterial rows
all_materials [] are = All-nil IsReadableMaterial
all_materials (row ∷ rows) are = All-cons IsReadableMaterial row rows (size_readable row.maxh are.0.maxh) (all_materials rows are.1)

pub readable : (raw : RawGeometry) → CanPrint raw → IsReadable raw
readable raw can = record {
  few_points = can.fits.within.points;
  few_segments = can.fits.within.segments;
  points = all_points raw.points can.points;
  segments = all_segments raw.points raw.segments can.segments can.fits.known;
  materials = all_materials raw.materials can.materials;
}

-- ---- the size that words ask for

word_readable : (word : List ℕ) (d : Dec) → decimal_of word ≡ Some d → IsReadableNumber d
word_readable word d written =
    let f = decimal_found word d written in
    subst IsReadableNumber (sym f.3) (record { digits = decimal_is_small f.0 f.1; scale_least = scale_least _ f.1.scale; scale_greatest = scale_greatest _ f.1.scale })

value_readable : (given : Option (List ℕ)) (value : Option Dec) → HasValue IsSize given value → IsReadableIfAny value
value_readable None value none = subst IsReadableIfAny (sym none) tt
value_readable (Some word) value has = subst IsReadableIfAny (sym has.2) (word_readable word has.0 has.1.written)

-- ---- the whole numbers that words ask for

-- a number that a word writes is not above the greatest
not_above : (whole within : Bool) (value greatest n : ℕ) → nat_le value greatest ≡ within → (if whole && within then Some value else None) ≡ Some n → n ≤ greatest
not_above true true value greatest n at_most written = subst (λ (m : ℕ). m ≤ greatest) (some_same value n written) (grind (arith, nat_tests))
  where
    some_same : (v m : ℕ) → Some v ≡ Some m → v ≡ m
    some_same v m e = cc
not_above true false value greatest n at_most written = absurd (cc)
not_above false within value greatest n at_most written = absurd (cc)

at_least : (least greatest : ℕ) (given : Option (List ℕ)) (value : Option ℕ) → HasValue (IsWholeFrom least greatest) given value → IfSome value (λ n. least ≤ n)
at_least least greatest None value none = subst (λ (v : Option ℕ). IfSome v (λ n. least ≤ n)) (sym none) tt
at_least least greatest (Some word) value has = subst (λ (v : Option ℕ). IfSome v (λ n. least ≤ n)) (sym has.2) has.1.enough

at_most : (least greatest : ℕ) (given : Option (List ℕ)) (value : Option ℕ) → HasValue (IsWholeFrom least greatest) given value → IfSome value (λ n. n ≤ greatest)
at_most least greatest None value none = subst (λ (v : Option ℕ). IfSome v (λ n. n ≤ greatest)) (sym none) tt
at_most least greatest (Some word) value has = subst (λ (v : Option ℕ). IfSome v (λ n. n ≤ greatest)) (sym has.2) (not_above (is_whole word) (nat_le (value_of word) greatest) (value_of word) greatest has.0 refl has.1.written)

-- the options of a call are in the ranges of their words
options_in_range : (given : Given) (options : MeshOptions) → AreOptions given options → AreInRange options
options_in_range given options are = record {
  maxh = value_readable given.maxh options.maxh are.maxh;
  grading = at_most 0 10000 given.grading options.grading are.grading;
  class_least = at_least 1 16 given.class options.class are.class;
  class_greatest = at_most 1 16 given.class options.class are.class;
}

pub call_in_range : (words : List (List ℕ)) (call : MeshCall) → IsCommand words (task_of (commands.Mesh call)) → AreInRange call.options
call_in_range words call command = options_in_range command.3.1.1 call.options command.3.1.3.1

whole_at_most : (least greatest n : ℕ) (word : List ℕ) → IsWholeFrom least greatest word n → n ≤ greatest
whole_at_most least greatest n word has = not_above (is_whole word) (nat_le (value_of word) greatest) (value_of word) greatest n refl has.written

-- the domain that is viewed is at most 64
pub view_in_range : (words : List (List ℕ)) (log : List ℕ) (domain step : ℕ) → IsCommand words (ViewOf log domain step) → domain ≤ 64
view_in_range words log domain step command = let stands = command.3.1.3 in whole_at_most 1 64 domain stands.0 stands.3

-- the numbers of `gen` are in their ranges
pub few_squares : (words : List (List ℕ)) (squares parts : ℕ) → IsCommand words (task_of (commands.Gen squares parts)) → AreFew squares parts
few_squares words squares parts command =
    let stands = command.3.1.3 in
    record {
      squares_least = stands.3.enough;
      squares_greatest = whole_at_most 1 8 squares stands.0 stands.3;
      parts_least = stands.4.enough;
      parts_greatest = whole_at_most 1 16 parts stands.1 stands.4;
    }
