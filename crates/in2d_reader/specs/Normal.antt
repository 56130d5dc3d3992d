-- The normal text of a geometry.
--
-- decimal_text  a decimal, plainly where its scale is from -20 to 0
-- line_text     a line of words
-- lines_of      the lines of a geometry
-- normal_text   their text
-- CanPrint      a geometry that a reader gives
use Rattle.std.specs.Prelude.{◌≡◌, ℕ, ◌+◌, ◌-◌, ◌<◌, ◌≤◌, ◌^◌, Bool, true, ◌&&◌, nat_le, if◌then◌else◌, List, [], ◌∷◌, ◌++◌, length, take, drop, map, replicate, Option, Some, None, IfSome, ℤ, pos, int_le, negsuc, unsigned_abs}
use Rattle.std.specs.List.{flat_map, AllByRecursion}
use Rattle.std.specs.Fmt.{decimal}
use Rattle.word_scan.specs.declared.decimals.Dec.{Dec}
use Rattle.word_scan.specs.Parts.{IsRun}
use Rattle.word_scan.specs.Decimals.{Sign, sign_of, DecimalParts, spelling, fraction_text}
use Rattle.in2d_reader.specs.declared.geometry.PointRow.{PointRow}
use Rattle.in2d_reader.specs.declared.geometry.SegmentRow.{SegmentRow}
use Rattle.in2d_reader.specs.declared.geometry.MaterialRow.{MaterialRow}
use Rattle.in2d_reader.specs.declared.geometry.RawGeometry.{RawGeometry}
use Rattle.in2d_reader.specs.Words.{Word, head_word, points_word, segments_word, materials_word, two_word, maxh_text, bc_text, is_name}
use Rattle.in2d_reader.specs.Grammar.{Fits}

-- digits with noughts before them, one more than `places` at least
abbrev pub filled : ℕ → List ℕ → List ℕ
filled places digits = replicate (places + 1 - length digits) 48 ++ digits

-- the parts of a decimal with this number of digits behind the point, and no point where there are none
abbrev pub plain_parts : Sign → List ℕ → ℕ → DecimalParts
plain_parts sign digits places = record {
  sign = sign;
  front = take (length digits - places) digits;
  fraction = if nat_le places 0 then None else Some (drop (length digits - places) digits);
  power = None;
}

abbrev pub power_parts : Sign → List ℕ → ℤ → DecimalParts
power_parts sign digits scale = record {
  sign = sign;
  front = digits;
  fraction = None;
  power = Some
      (record { letter = 101; sign = sign_of scale; digits = decimal (unsigned_abs scale) });
}

-- their bytes
abbrev pub plain_text : List ℕ → ℕ → List ℕ
plain_text digits places = take (length digits - places) digits ++ (fraction_text
    (if nat_le places 0 then None else Some (drop (length digits - places) digits)) ++ [])

abbrev pub is_plain : ℤ → Bool
is_plain scale = int_le (negsuc 19) scale && int_le scale (pos 0)

-- the parts in which a decimal is printed
abbrev pub normal_parts : Dec → DecimalParts
normal_parts d = if is_plain d.scale
    then plain_parts (sign_of d.digits)
    (filled (unsigned_abs d.scale) (decimal (unsigned_abs d.digits))) (unsigned_abs d.scale)
    else power_parts (sign_of d.digits) (decimal (unsigned_abs d.digits)) d.scale

unfoldable pub decimal_text : Dec → Word
decimal_text d = spelling (normal_parts d)

abbrev pub spaced : List Word → List ℕ
spaced words = flat_map (λ word. 32 ∷ word) words

-- words separated by one space, and a line feed
abbrev pub line_text : List Word → List ℕ
line_text [] = 10 ∷ []
line_text (word ∷ words) = word ++ (spaced words ++ 10 ∷ [])

abbrev pub size_flags : Option Dec → List Word
size_flags None = []
size_flags (Some d) = (maxh_text ++ decimal_text d) ∷ []

abbrev pub number_flags : Option ℕ → List Word
number_flags None = []
number_flags (Some n) = (bc_text ++ decimal n) ∷ []

abbrev pub point_line : PointRow → List Word
point_line row = decimal row.number ∷ decimal_text row.x ∷ decimal_text row.y ∷ size_flags row.maxh

abbrev pub segment_line : SegmentRow → List Word
segment_line row = decimal row.left ∷ decimal row.right ∷ two_word ∷ decimal row.p ∷ decimal row.q
    ∷ (number_flags row.bc ++ size_flags row.maxh)

abbrev pub material_line : MaterialRow → List Word
material_line row = decimal row.domain ∷ row.name ∷ size_flags row.maxh

abbrev pub material_lines : List MaterialRow → List (List Word)
material_lines [] = []
material_lines (row ∷ rows) = (materials_word ∷ []) ∷ map material_line (row ∷ rows)

abbrev pub head_lines : Dec → List (List Word)
head_lines number = (head_word ∷ []) ∷ (decimal_text number ∷ []) ∷ (points_word ∷ []) ∷ []

abbrev pub lines_of : RawGeometry → List (List Word)
lines_of raw = head_lines raw.number
    ++ (map point_line raw.points
    ++ ((segments_word ∷ []) ∷ (map segment_line raw.segments ++ material_lines raw.materials)))

-- the text of the lines
abbrev pub normal_text : RawGeometry → List ℕ
normal_text raw = flat_map line_text (lines_of raw)

-- ---- what can be printed

-- at most thirty digits, and a scale from -99 to 99
pub record IsDec (d : Dec) : Type 0 where
  pub digits : unsigned_abs d.digits < 10 ^ 30
  pub scale : unsigned_abs d.scale ≤ 99

pub record IsPointRow (row : PointRow) : Type 0 where
  pub number : row.number ≤ 999999
  pub x : IsDec row.x
  pub y : IsDec row.y
  pub maxh : IfSome row.maxh IsDec

pub record IsSegmentRow (row : SegmentRow) : Type 0 where
  pub left : row.left ≤ 64
  pub right : row.right ≤ 64
  pub p : row.p ≤ 999999
  pub q : row.q ≤ 999999
  pub bc : IfSome row.bc (λ n. (0 < n) × (n ≤ 999999))
  pub maxh : IfSome row.maxh IsDec

pub record IsMaterialRow (row : MaterialRow) : Type 0 where
  pub some : 0 < row.domain
  pub domain : row.domain ≤ 64
  pub name : IsRun row.name
  pub no_flag : is_name row.name ≡ true
  pub maxh : IfSome row.maxh IsDec

-- its numbers, decimals and names are in their ranges, its rows within the limits, its points have different numbers, and its segments name points of the file
pub record CanPrint (raw : RawGeometry) : Type 0 where
  pub number : IsDec raw.number
  pub points : AllByRecursion IsPointRow raw.points
  pub segments : AllByRecursion IsSegmentRow raw.segments
  pub materials : AllByRecursion IsMaterialRow raw.materials
  pub fits : Fits raw
