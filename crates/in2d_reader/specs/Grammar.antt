-- The grammar of a geometry.
--
-- FileText    the words of a file, part by part
-- file_words  those words in their order
-- IsFile      what they write
-- Derives     words of the grammar, and the one geometry that they write
-- Fits        a geometry within the limits, with different numbers and known points
use Rattle.std.specs.Prelude.{◌≡◌, ℕ, ◌≤◌, Bool, true, false, ◌||◌, ◌==◌, List, [], ◌∷◌, ◌++◌, length, Option, Some, None}
use Rattle.std.specs.List.{flat_map, fold, AllByRecursion}
use Rattle.word_scan.specs.Numerals.{whole_of}
use Rattle.word_scan.specs.Decimals.{decimal_of}
use Rattle.in2d_reader.specs.declared.geometry.PointRow.{PointRow}
use Rattle.in2d_reader.specs.declared.geometry.SegmentRow.{SegmentRow}
use Rattle.in2d_reader.specs.declared.geometry.MaterialRow.{MaterialRow}
use Rattle.in2d_reader.specs.declared.geometry.RawGeometry.{RawGeometry}
use Rattle.in2d_reader.specs.Words.{Word, head_word, points_word, segments_word, materials_word, two_word, is_flag, is_name, Given, Nothing, Value, Bad, size_in, number_in, from_one}

-- NUMBER DECIMAL DECIMAL flag*
pub record PointText : Type 0 where
  pub number : Word
  pub x : Word
  pub y : Word
  pub flags : List Word

-- DOMAIN DOMAIN 2 NUMBER NUMBER flag*
pub record SegmentText : Type 0 where
  pub left : Word
  pub right : Word
  pub from : Word
  pub to : Word
  pub flags : List Word

-- MATERIAL NAME flag*
pub record MaterialText : Type 0 where
  pub domain : Word
  pub name : Word
  pub flags : List Word

-- the number, the rows, and the materials where there is that part
pub record FileText : Type 0 where
  pub number : Word
  pub points : List PointText
  pub segments : List SegmentText
  pub materials : Option (List MaterialText)

abbrev pub point_words : PointText → List Word
point_words t = t.number ∷ t.x ∷ t.y ∷ t.flags

abbrev pub segment_words : SegmentText → List Word
segment_words t = t.left ∷ t.right ∷ two_word ∷ t.from ∷ t.to ∷ t.flags

abbrev pub material_words : MaterialText → List Word
material_words t = t.domain ∷ t.name ∷ t.flags

abbrev pub materials_part : Option (List MaterialText) → List Word
materials_part None = []
materials_part (Some texts) = materials_word ∷ flat_map material_words texts

abbrev pub segments_part : List SegmentText → Option (List MaterialText) → List Word
segments_part segments materials = flat_map segment_words segments ++ materials_part materials

abbrev pub points_part : List PointText → List SegmentText → Option (List MaterialText) → List Word
points_part points segments materials =
    flat_map point_words points ++ (segments_word ∷ segments_part segments materials)

-- the words of a file
abbrev pub file_words : FileText → List Word
file_words t = head_word ∷ t.number ∷ points_word ∷ points_part t.points t.segments t.materials

-- ---- flags

-- a flag that counts has a value of its kind
abbrev pub IsGood : {A : Type 0} → Given A → Type 0
IsGood Nothing = Unit {0}
IsGood (Value x) = Unit {0}
IsGood Bad = ⊥

abbrev pub latest : {A : Type 0} → Option A → Given A → Option A
latest before Nothing = before
latest before (Value x) = Some x
latest before Bad = before

-- of the flags behind a row the last that gives a value counts
abbrev pub last_value : {A : Type 0} → (Word → Given A) → Option A → List Word → Option A
last_value read before flags = fold (λ value flag. latest value (read flag)) before flags

abbrev pub IsSizeFlag : Word → Type 0
IsSizeFlag word = (is_flag word ≡ true) × IsGood (size_in word)

abbrev pub IsSegmentFlag : Word → Type 0
IsSegmentFlag word = (is_flag word ≡ true) × IsGood (number_in word) × IsGood (size_in word)

-- ---- rows

pub record IsPoint (text : PointText) (row : PointRow) : Type 0 where
  pub number : whole_of text.number 999999 ≡ Some row.number
  pub x : decimal_of text.x ≡ Some row.x
  pub y : decimal_of text.y ≡ Some row.y
  pub flags : AllByRecursion IsSizeFlag text.flags
  pub maxh : row.maxh ≡ last_value size_in None text.flags

pub record IsSegment (text : SegmentText) (row : SegmentRow) : Type 0 where
  pub left : whole_of text.left 64 ≡ Some row.left
  pub right : whole_of text.right 64 ≡ Some row.right
  pub from : whole_of text.from 999999 ≡ Some row.p
  pub to : whole_of text.to 999999 ≡ Some row.q
  pub flags : AllByRecursion IsSegmentFlag text.flags
  pub bc : row.bc ≡ last_value number_in None text.flags
  pub maxh : row.maxh ≡ last_value size_in None text.flags

pub record IsMaterial (text : MaterialText) (row : MaterialRow) : Type 0 where
  pub domain : from_one (whole_of text.domain 64) ≡ Some row.domain
  pub name : is_name text.name ≡ true
  pub called : row.name ≡ text.name
  pub flags : AllByRecursion IsSizeFlag text.flags
  pub maxh : row.maxh ≡ last_value size_in None text.flags

-- each text writes the row in its place
abbrev pub Each : {T R : Type 0} → (T → R → Type 0) → List T → List R → Type 0
Each Writes [] [] = Unit {0}
Each Writes [] (row ∷ rows) = ⊥
Each Writes (text ∷ texts) [] = ⊥
Each Writes (text ∷ texts) (row ∷ rows) = Writes text row × Each Writes texts rows

abbrev pub material_texts : Option (List MaterialText) → List MaterialText
material_texts None = []
material_texts (Some texts) = texts

pub record IsFile (text : FileText) (raw : RawGeometry) : Type 0 where
  pub number : decimal_of text.number ≡ Some raw.number
  pub points : Each IsPoint text.points raw.points
  pub segments : Each IsSegment text.segments raw.segments
  pub materials : Each IsMaterial (material_texts text.materials) raw.materials

-- the grammar derives these words, and they write this geometry
abbrev pub Derives : List Word → RawGeometry → Type 0
Derives words raw = (text : FileText) × IsFile text raw × (words ≡ file_words text)

-- ---- limits and numbers

-- whether a point has this number
abbrev pub is_known : ℕ → List PointRow → Bool
is_known n [] = false
is_known n (row ∷ rows) = n == row.number || is_known n rows

abbrev pub NumbersDiffer : List PointRow → Type 0
NumbersDiffer [] = Unit {0}
NumbersDiffer (row ∷ rows) = (is_known row.number rows ≡ false) × NumbersDiffer rows

abbrev pub HasEnds : List PointRow → SegmentRow → Type 0
HasEnds points row = (is_known row.p points ≡ true) × (is_known row.q points ≡ true)

-- at most 4,096 points and segments, and points with different numbers
pub record Within (raw : RawGeometry) : Type 0 where
  pub points : length raw.points ≤ 4096
  pub segments : length raw.segments ≤ 4096
  pub numbers : NumbersDiffer raw.points

-- within the limits, and each segment goes from a point to a point
pub record Fits (raw : RawGeometry) : Type 0 where
  pub within : Within raw
  pub known : AllByRecursion (HasEnds raw.points) raw.segments
