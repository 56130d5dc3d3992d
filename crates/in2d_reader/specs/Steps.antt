-- Reading a geometry word by word.
--
-- Spot    what a text may go on with
-- Draft   what has been read, and the spot
-- step    a word more, or the refusal there
-- finish  the geometry at the end of the text, or the refusal there
use Rattle.std.specs.Prelude.{ℕ, ◌+◌, Bool, true, ◌&&◌, nat_le, if◌then◌else◌, List, [], ◌∷◌, ◌++◌, length, Option, Some, None, Result, Ok, Err, pos}
use Rattle.std.specs.Str.{bytes_eq}
use Rattle.word_scan.specs.declared.decimals.Dec.{Dec}
use Rattle.word_scan.specs.Numerals.{whole_of}
use Rattle.word_scan.specs.Decimals.{decimal_of}
use Rattle.in2d_reader.specs.declared.geometry.PointRow.{PointRow}
use Rattle.in2d_reader.specs.declared.geometry.SegmentRow.{SegmentRow}
use Rattle.in2d_reader.specs.declared.geometry.MaterialRow.{MaterialRow}
use Rattle.in2d_reader.specs.declared.geometry.RawGeometry.{RawGeometry}
use Rattle.in2d_reader.specs.declared.place.HeadPlace.{HeadPlace}
use Rattle.in2d_reader.specs.declared.place.HeadPlace.TheVariants as heads
use Rattle.in2d_reader.specs.declared.place.PointPlace.{PointPlace}
use Rattle.in2d_reader.specs.declared.place.PointPlace.TheVariants as points
use Rattle.in2d_reader.specs.declared.place.SegmentPlace.{SegmentPlace}
use Rattle.in2d_reader.specs.declared.place.SegmentPlace.TheVariants as segments
use Rattle.in2d_reader.specs.declared.place.MaterialPlace.{MaterialPlace}
use Rattle.in2d_reader.specs.declared.place.MaterialPlace.TheVariants as materials
use Rattle.in2d_reader.specs.declared.place.Place.{Place}
use Rattle.in2d_reader.specs.declared.place.Place.TheVariants as places
use Rattle.in2d_reader.specs.declared.refusal.In2dRefusal.{In2dRefusal}
use Rattle.in2d_reader.specs.declared.refusal.In2dRefusal.TheVariants.{Syntax, Number, Curved, TooMany, NumberTwice, UnknownPoint}
use Rattle.in2d_reader.specs.Grammar.{is_known}
use Rattle.in2d_reader.specs.Words.{Word, head_word, points_word, segments_word, materials_word, two_word, three_word, is_flag, is_name, Given, Nothing, Value, Bad, size_in, number_in, from_one}

pub data MaterialSpot : Type 0 where
  NoMaterial : MaterialSpot
  MaterialName : ℕ → MaterialSpot
  MaterialEnd : MaterialRow → MaterialSpot

pub data Spot : Type 0 where
  InHead : HeadPlace → Spot
  InPoints : PointPlace → Spot
  InSegments : SegmentPlace → Spot
  InMaterials : MaterialSpot → Spot

-- the spot of a place
abbrev pub material_spot : MaterialPlace → MaterialSpot
material_spot materials.Start = NoMaterial
material_spot (materials.Name domain) = MaterialName domain
material_spot (materials.End domain name maxh) =
    MaterialEnd (record { domain = domain; name = name.now; maxh = maxh })

abbrev pub spot_of : Place → Spot
spot_of (places.Head place) = InHead place
spot_of (places.Points place) = InPoints place
spot_of (places.Segments place) = InSegments place
spot_of (places.Materials place) = InMaterials (material_spot place)

-- what has been read; the row at hand stands in the spot
pub record Draft : Type 0 where
  pub number : Dec
  pub points : List PointRow
  pub segments : List SegmentRow
  pub materials : List MaterialRow
  pub spot : Spot

abbrev pub Step : Type 0
Step = Result Draft In2dRefusal

abbrev pub at_spot : Draft → Spot → Draft
at_spot d spot = record {
  number = d.number;
  points = d.points;
  segments = d.segments;
  materials = d.materials;
  spot = spot;
}

abbrev pub with_point : Draft → PointRow → Draft
with_point d row = record {
  number = d.number;
  points = d.points ++ row ∷ [];
  segments = d.segments;
  materials = d.materials;
  spot = d.spot;
}

abbrev pub with_segment : Draft → SegmentRow → Draft
with_segment d row = record {
  number = d.number;
  points = d.points;
  segments = d.segments ++ row ∷ [];
  materials = d.materials;
  spot = d.spot;
}

abbrev pub with_material : Draft → MaterialRow → Draft
with_material d row = record {
  number = d.number;
  points = d.points;
  segments = d.segments;
  materials = d.materials ++ row ∷ [];
  spot = d.spot;
}

abbrev pub with_number : Draft → Dec → Draft
with_number d number = record {
  number = number;
  points = d.points;
  segments = d.segments;
  materials = d.materials;
  spot = d.spot;
}

-- a value that is read, or the refusal there
abbrev pub or_else : {A : Type 0} → Option A → In2dRefusal → Result A In2dRefusal
or_else None refusal = Err refusal
or_else (Some x) refusal = Ok x

infixl 10 ◌>>=◌
abbrev pub ◌>>=◌ : {A B : Type 0} → Result A In2dRefusal → (A → Result B In2dRefusal)
    → Result B In2dRefusal
(Ok x) >>= f = f x
(Err e) >>= f = Err e

-- ---- the head

unfoldable pub head_step : Draft → HeadPlace → ℕ → Word → Step
head_step d heads.First at word = if bytes_eq word head_word
    then Ok (at_spot d (InHead heads.Number)) else Err (Syntax at)
head_step d heads.Number at word = do
  number ← or_else (decimal_of word) (Number at)
  Ok (at_spot (with_number d number) (InHead heads.Points))
head_step d heads.Points at word = if bytes_eq word points_word
    then Ok (at_spot d (InPoints points.Start)) else Err (Syntax at)

-- ---- flags

-- a size that a flag gives, or the one before
abbrev pub size_after : Option Dec → ℕ → Given Dec → Result (Option Dec) In2dRefusal
size_after size at Nothing = Ok size
size_after size at (Value new) = Ok (Some new)
size_after size at Bad = Err (Number at)

abbrev pub number_after : Option ℕ → ℕ → Given ℕ → Result (Option ℕ) In2dRefusal
number_after number at Nothing = Ok number
number_after number at (Value new) = Ok (Some new)
number_after number at Bad = Err (Number at)

abbrev pub sized_point : PointRow → Option Dec → PointRow
sized_point row maxh = record { number = row.number; x = row.x; y = row.y; maxh = maxh }

abbrev pub flagged_segment : SegmentRow → Option ℕ → Option Dec → SegmentRow
flagged_segment row bc maxh = record {
  left = row.left;
  right = row.right;
  p = row.p;
  q = row.q;
  bc = bc;
  maxh = maxh;
}

abbrev pub sized_material : MaterialRow → Option Dec → MaterialRow
sized_material row maxh = record { domain = row.domain; name = row.name; maxh = maxh }

-- ---- points

-- a point's number begins a row; the limit and the numbers before count where the reading is strict
unfoldable pub new_point : Bool → Draft → ℕ → ℕ → Step
new_point strict d at n = if strict && nat_le 4096 (length d.points) then Err (TooMany 1)
    else if strict && is_known n d.points then Err (NumberTwice at)
    else Ok (at_spot d (InPoints (points.X n)))

unfoldable pub point_start : Bool → Draft → ℕ → Word → Step
point_start strict d at word = if bytes_eq word segments_word
    then Ok (at_spot d (InSegments segments.Start))
    else (or_else (whole_of word 999999) (Syntax at) >>= new_point strict d at)

unfoldable pub point_flag : Draft → PointRow → ℕ → Word → Step
point_flag d row at word = do
  maxh ← size_after row.maxh at (size_in word)
  Ok (at_spot d (InPoints (points.End (sized_point row maxh))))

unfoldable pub point_step : Bool → Draft → PointPlace → ℕ → Word → Step
point_step strict d points.Start at word = point_start strict d at word
point_step strict d (points.X n) at word = do
  x ← or_else (decimal_of word) (Number at)
  Ok (at_spot d (InPoints (points.Y n x)))
point_step strict d (points.Y n x) at word = do
  y ← or_else (decimal_of word) (Number at)
  Ok (at_spot d (InPoints (points.End (record { number = n; x = x; y = y; maxh = None }))))
point_step strict d (points.End row) at word = if is_flag word then point_flag d row at word
    else point_start strict (with_point d row) at word

-- ---- segments

unfoldable pub new_segment : Bool → Draft → ℕ → Step
new_segment strict d left = if strict && nat_le 4096 (length d.segments) then Err (TooMany 2)
    else Ok (at_spot d (InSegments (segments.Right left)))

unfoldable pub segment_start : Bool → Draft → ℕ → Word → Step
segment_start strict d at word = if bytes_eq word materials_word
    then Ok (at_spot d (InMaterials NoMaterial))
    else (or_else (whole_of word 64) (Syntax at) >>= new_segment strict d)

-- the word `2` is needed; `3` is a curved segment, with the number of its row
unfoldable pub shape_step : Draft → ℕ → ℕ → ℕ → Word → Step
shape_step d left right at word =
    if bytes_eq word two_word then Ok (at_spot d (InSegments (segments.From left right)))
    else if bytes_eq word three_word then Err (Curved (length d.segments + 1))
    else Err (Number at)

unfoldable pub segment_flag : Draft → SegmentRow → ℕ → Word → Step
segment_flag d row at word = do
  bc ← number_after row.bc at (number_in word)
  maxh ← size_after row.maxh at (size_in word)
  Ok (at_spot d (InSegments (segments.End (flagged_segment row bc maxh))))

unfoldable pub segment_step : Bool → Draft → SegmentPlace → ℕ → Word → Step
segment_step strict d segments.Start at word = segment_start strict d at word
segment_step strict d (segments.Right left) at word = do
  right ← or_else (whole_of word 64) (Number at)
  Ok (at_spot d (InSegments (segments.Shape left right)))
segment_step strict d (segments.Shape left right) at word = shape_step d left right at word
segment_step strict d (segments.From left right) at word = do
  p ← or_else (whole_of word 999999) (Number at)
  Ok (at_spot d (InSegments (segments.To left right p)))
segment_step strict d (segments.To left right p) at word = do
  q ← or_else (whole_of word 999999) (Number at)
  Ok (at_spot d (InSegments (segments.End
      (record { left = left; right = right; p = p; q = q; bc = None; maxh = None }))))
segment_step strict d (segments.End row) at word = if is_flag word then segment_flag d row at word
    else segment_start strict (with_segment d row) at word

-- ---- materials

unfoldable pub material_start : Draft → ℕ → Word → Step
material_start d at word = do
  domain ← or_else (from_one (whole_of word 64)) (Syntax at)
  Ok (at_spot d (InMaterials (MaterialName domain)))

unfoldable pub material_flag : Draft → MaterialRow → ℕ → Word → Step
material_flag d row at word = do
  maxh ← size_after row.maxh at (size_in word)
  Ok (at_spot d (InMaterials (MaterialEnd (sized_material row maxh))))

unfoldable pub material_step : Draft → MaterialSpot → ℕ → Word → Step
material_step d NoMaterial at word = material_start d at word
material_step d (MaterialName domain) at word = if is_name word
    then Ok (at_spot d (InMaterials
    (MaterialEnd (record { domain = domain; name = word; maxh = None }))))
    else Err (Syntax at)
material_step d (MaterialEnd row) at word = if is_flag word then material_flag d row at word
    else material_start (with_material d row) at word

-- ---- the whole

unfoldable pub spot_step : Bool → Draft → Spot → ℕ → Word → Step
spot_step strict d (InHead spot) at word = head_step d spot at word
spot_step strict d (InPoints spot) at word = point_step strict d spot at word
spot_step strict d (InSegments spot) at word = segment_step strict d spot at word
spot_step strict d (InMaterials spot) at word = material_step d spot at word

abbrev pub step : Bool → Draft → ℕ → Word → Step
step strict d at word = spot_step strict d d.spot at word

-- nothing is read yet
abbrev pub nothing_read : Draft
nothing_read = record {
  number = record { digits = pos 0; scale = pos 0 };
  points = [];
  segments = [];
  materials = [];
  spot = InHead heads.First;
}

-- the words one after another, the first of them with number `at`
unfoldable pub steps : Bool → Draft → ℕ → List Word → Step
steps strict d at [] = Ok d
steps strict d at (word ∷ words) =
    step strict d at word >>= λ next. steps strict next (at + 1) words

abbrev pub whole_raw : Draft → RawGeometry
whole_raw d = record {
  number = d.number;
  points = d.points;
  segments = d.segments;
  materials = d.materials;
}

unfoldable pub finish_spot : Draft → Spot → ℕ → Result RawGeometry In2dRefusal
finish_spot d (InHead spot) at = Err (Syntax at)
finish_spot d (InPoints spot) at = Err (Syntax at)
finish_spot d (InSegments segments.Start) at = Ok (whole_raw d)
finish_spot d (InSegments (segments.End row)) at = Ok (whole_raw (with_segment d row))
finish_spot d (InSegments spot) at = Err (Syntax at)
finish_spot d (InMaterials NoMaterial) at = Ok (whole_raw d)
finish_spot d (InMaterials (MaterialEnd row)) at = Ok (whole_raw (with_material d row))
finish_spot d (InMaterials (MaterialName domain)) at = Err (Syntax at)

-- the end of the text is needed, where it would be word number `at`
unfoldable pub finish : Draft → ℕ → Result RawGeometry In2dRefusal
finish d at = finish_spot d d.spot at

-- the first segment that names a point that is not there
unfoldable pub known_from : List PointRow → ℕ → List SegmentRow → Result (Unit {0}) In2dRefusal
known_from points k [] = Ok tt
known_from points k (row ∷ rows) = if is_known row.p points && is_known row.q points
    then known_from points (k + 1) rows else Err (UnknownPoint k)

-- the geometry at the end of the text, with known points
abbrev pub with_known : RawGeometry → Result RawGeometry In2dRefusal
with_known raw = known_from raw.points 1 raw.segments >>= λ known. Ok raw

abbrev pub finished : Draft → ℕ → Result RawGeometry In2dRefusal
finished d at = finish d at >>= with_known

-- the geometry that the words write, or the refusal at the first word that doesn't fit
unfoldable pub geometry_of : List Word → Result RawGeometry In2dRefusal
geometry_of words = steps true nothing_read 1 words >>= λ d. finished d (length words + 1)
