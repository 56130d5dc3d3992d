-- From each spot a text can be completed without a further row that begins with a number.
use Rattle.std.proofs.Common.{◌≡◌, ℕ, ◌+◌, Bool, true, List, [], ◌∷◌, Some, Ok, pos, refl, ◌∙◌}
use Rattle.word_scan.specs.declared.decimals.Dec.{Dec}
use Rattle.word_scan.specs.Numerals.{whole_of}
use Rattle.word_scan.specs.Decimals.{decimal_of}
use Rattle.in2d_reader.specs.declared.geometry.PointRow.{PointRow}
use Rattle.in2d_reader.specs.declared.geometry.SegmentRow.{SegmentRow}
use Rattle.in2d_reader.specs.declared.geometry.MaterialRow.{MaterialRow}
use Rattle.in2d_reader.specs.declared.geometry.RawGeometry.{RawGeometry}
use Rattle.in2d_reader.specs.declared.place.HeadPlace.TheVariants as heads
use Rattle.in2d_reader.specs.declared.place.PointPlace.TheVariants as points
use Rattle.in2d_reader.specs.declared.place.SegmentPlace.TheVariants as segments
use Rattle.in2d_reader.specs.Words.{Word, head_word, points_word, segments_word, two_word, is_name}
use Rattle.in2d_reader.specs.Steps.{NoMaterial, MaterialName, MaterialEnd, Spot, InHead, InPoints, InSegments, InMaterials, Draft, at_spot, with_point, with_segment, with_material, with_number, head_step, spot_step, step, steps, whole_raw, finish_spot, finish}
use Rattle.in2d_reader.proofs.Forward.{new_point_row, new_segment_row, new_material_row}
use Rattle.in2d_reader.proofs.Again.{at_first_point, at_next_point, point_x_step, point_y_step, right_step, two_step, from_step, to_step, name_step, same_word, steps_one}

-- these words lead to the end of a text
pub record Completes (strict : Bool) (d : Draft) : Type 0 where
  pub rest : List Word
  pub last : Draft
  pub raw : RawGeometry
  pub read : (at : ℕ) → steps strict d at rest ≡ Ok last
  pub finish : (end : ℕ) → finish last end ≡ Ok raw

complete : (strict : Bool) (d : Draft) (raw : RawGeometry) → ((end : ℕ) → finish d end ≡ Ok raw) → Completes strict d
unfolding steps
complete strict d raw ends = record { rest = []; last = d; raw = raw; read = λ at. refl; finish = ends }

extend : (strict : Bool) (d next : Draft) (word : Word) → ((at : ℕ) → step strict d at word ≡ Ok next) → Completes strict next → Completes strict d
extend strict d next word one on =
    record { rest = word ∷ on.rest; last = on.last; raw = on.raw; read = λ at. steps_one strict d next at word on.rest (one at) ∙ on.read (at + 1); finish = on.finish }

-- `0` and `1`
nought : Word
nought = 48 ∷ []

one : Word
one = 49 ∷ []

abbrev none : Dec
none = record { digits = pos 0; scale = pos 0 }

nought_decimal : decimal_of nought ≡ Some none
unfolding decimal_of nought
nought_decimal = refl

one_domain : whole_of one 64 ≡ Some 1
unfolding one
one_domain = refl

one_number : whole_of one 999999 ≡ Some 1
unfolding one
one_number = refl

one_name : is_name one ≡ true
unfolding one is_name
one_name = refl

from_segments : (strict : Bool) (d : Draft) → Completes strict (at_spot d (InSegments segments.Start))
unfolding finish finish_spot
from_segments strict d = complete strict (at_spot d (InSegments segments.Start)) (whole_raw d) (λ end. refl)

from_segment : (strict : Bool) (d : Draft) (row : SegmentRow) → Completes strict (at_spot d (InSegments (segments.End row)))
unfolding finish finish_spot
from_segment strict d row = complete strict (at_spot d (InSegments (segments.End row))) (whole_raw (with_segment d row)) (λ end. refl)

from_to : (strict : Bool) (d : Draft) (left right p : ℕ) → Completes strict (at_spot d (InSegments (segments.To left right p)))
from_to strict d left right p = extend strict (at_spot d (InSegments (segments.To left right p))) (at_spot d (InSegments (segments.End (new_segment_row left right p 1)))) one (λ at. to_step strict d left right p at 1 one one_number) (from_segment strict d (new_segment_row left right p 1))

from_from : (strict : Bool) (d : Draft) (left right : ℕ) → Completes strict (at_spot d (InSegments (segments.From left right)))
from_from strict d left right = extend strict (at_spot d (InSegments (segments.From left right))) (at_spot d (InSegments (segments.To left right 1))) one (λ at. from_step strict d left right at 1 one one_number) (from_to strict d left right 1)

from_shape : (strict : Bool) (d : Draft) (left right : ℕ) → Completes strict (at_spot d (InSegments (segments.Shape left right)))
from_shape strict d left right = extend strict (at_spot d (InSegments (segments.Shape left right))) (at_spot d (InSegments (segments.From left right))) two_word (λ at. two_step strict d left right at) (from_from strict d left right)

from_right : (strict : Bool) (d : Draft) (left : ℕ) → Completes strict (at_spot d (InSegments (segments.Right left)))
from_right strict d left = extend strict (at_spot d (InSegments (segments.Right left))) (at_spot d (InSegments (segments.Shape left 1))) one (λ at. right_step strict d left at 1 one one_domain) (from_shape strict d left 1)

from_materials : (strict : Bool) (d : Draft) → Completes strict (at_spot d (InMaterials NoMaterial))
unfolding finish finish_spot
from_materials strict d = complete strict (at_spot d (InMaterials NoMaterial)) (whole_raw d) (λ end. refl)

from_material : (strict : Bool) (d : Draft) (row : MaterialRow) → Completes strict (at_spot d (InMaterials (MaterialEnd row)))
unfolding finish finish_spot
from_material strict d row = complete strict (at_spot d (InMaterials (MaterialEnd row))) (whole_raw (with_material d row)) (λ end. refl)

from_name : (strict : Bool) (d : Draft) (domain : ℕ) → Completes strict (at_spot d (InMaterials (MaterialName domain)))
from_name strict d domain = extend strict (at_spot d (InMaterials (MaterialName domain))) (at_spot d (InMaterials (MaterialEnd (new_material_row domain one)))) one (λ at. name_step strict d domain at one one_name) (from_material strict d (new_material_row domain one))

from_points : (strict : Bool) (d : Draft) → Completes strict (at_spot d (InPoints points.Start))
from_points strict d = extend strict (at_spot d (InPoints points.Start)) (at_spot d (InSegments segments.Start)) segments_word (λ at. (at_first_point strict d).section at) (from_segments strict d)

from_point : (strict : Bool) (d : Draft) (row : PointRow) → Completes strict (at_spot d (InPoints (points.End row)))
from_point strict d row = extend strict (at_spot d (InPoints (points.End row))) (at_spot (with_point d row) (InSegments segments.Start)) segments_word (λ at. (at_next_point strict d row).section at) (from_segments strict (with_point d row))

from_y : (strict : Bool) (d : Draft) (n : ℕ) (x : Dec) → Completes strict (at_spot d (InPoints (points.Y n x)))
from_y strict d n x = extend strict (at_spot d (InPoints (points.Y n x))) (at_spot d (InPoints (points.End (new_point_row n x none)))) nought (λ at. point_y_step strict d n x none at nought nought_decimal) (from_point strict d (new_point_row n x none))

from_x : (strict : Bool) (d : Draft) (n : ℕ) → Completes strict (at_spot d (InPoints (points.X n)))
from_x strict d n = extend strict (at_spot d (InPoints (points.X n))) (at_spot d (InPoints (points.Y n none))) nought (λ at. point_x_step strict d n at nought none nought_decimal) (from_y strict d n none)

pub points_step : (strict : Bool) (d : Draft) (at : ℕ) → step strict (at_spot d (InHead heads.Points)) at points_word ≡ Ok (at_spot d (InPoints points.Start))
unfolding spot_step head_step
points_step strict d at = rw (same_word points_word) refl

number_step : (strict : Bool) (d : Draft) (at : ℕ) → step strict (at_spot d (InHead heads.Number)) at nought ≡ Ok (at_spot (with_number d none) (InHead heads.Points))
unfolding spot_step head_step
number_step strict d at = rw nought_decimal refl

pub first_step : (strict : Bool) (d : Draft) (at : ℕ) → step strict (at_spot d (InHead heads.First)) at head_word ≡ Ok (at_spot d (InHead heads.Number))
unfolding spot_step head_step
first_step strict d at = rw (same_word head_word) refl

from_points_word : (strict : Bool) (d : Draft) → Completes strict (at_spot d (InHead heads.Points))
from_points_word strict d = extend strict (at_spot d (InHead heads.Points)) (at_spot d (InPoints points.Start)) points_word (points_step strict d) (from_points strict d)

from_number : (strict : Bool) (d : Draft) → Completes strict (at_spot d (InHead heads.Number))
from_number strict d = extend strict (at_spot d (InHead heads.Number)) (at_spot (with_number d none) (InHead heads.Points)) nought (number_step strict d) (from_points_word strict (with_number d none))

from_spot : (strict : Bool) (d : Draft) (spot : Spot) → Completes strict (at_spot d spot)
from_spot strict d (InHead heads.First) = extend strict (at_spot d (InHead heads.First)) (at_spot d (InHead heads.Number)) head_word (first_step strict d) (from_number strict d)
from_spot strict d (InHead heads.Number) = from_number strict d
from_spot strict d (InHead heads.Points) = from_points_word strict d
from_spot strict d (InPoints points.Start) = from_points strict d
from_spot strict d (InPoints (points.X n)) = from_x strict d n
from_spot strict d (InPoints (points.Y n x)) = from_y strict d n x
from_spot strict d (InPoints (points.End row)) = from_point strict d row
from_spot strict d (InSegments segments.Start) = from_segments strict d
from_spot strict d (InSegments (segments.Right left)) = from_right strict d left
from_spot strict d (InSegments (segments.Shape left right)) = from_shape strict d left right
from_spot strict d (InSegments (segments.From left right)) = from_from strict d left right
from_spot strict d (InSegments (segments.To left right p)) = from_to strict d left right p
from_spot strict d (InSegments (segments.End row)) = from_segment strict d row
from_spot strict d (InMaterials NoMaterial) = from_materials strict d
from_spot strict d (InMaterials (MaterialName domain)) = from_name strict d domain
from_spot strict d (InMaterials (MaterialEnd row)) = from_material strict d row

pub completed : (strict : Bool) (d : Draft) → Completes strict d
completed strict d = from_spot strict d d.spot
