-- The words that a geometry is written in.
--
-- head_word ..   the words that stand as they are written
-- is_flag        a word of `-`, a letter, and whatever follows
-- behind         what stands behind these bytes, where a word begins with them
-- size_in        the size that a flag gives
-- number_in      the boundary condition that a flag gives
use Rattle.std.specs.Prelude.{ℕ, zero, suc, Bool, true, false, ◌&&◌, ◌==◌, not, if◌then◌else◌, List, [], ◌∷◌, Option, Some, None, codes}
use Rattle.std.specs.Char.{is_ascii_alphabetic}
use Rattle.word_scan.specs.declared.decimals.Dec.{Dec}
use Rattle.word_scan.specs.Numerals.{whole_of}
use Rattle.word_scan.specs.Decimals.{decimal_of}

abbrev pub Word : Type 0
Word = List ℕ

unfoldable pub head_word : Word
head_word = codes "splinecurves2dv2"

unfoldable pub points_word : Word
points_word = codes "points"

unfoldable pub segments_word : Word
segments_word = codes "segments"

unfoldable pub materials_word : Word
materials_word = codes "materials"

unfoldable pub two_word : Word
two_word = codes "2"

unfoldable pub three_word : Word
three_word = codes "3"

unfoldable pub maxh_text : Word
maxh_text = codes "-maxh="

unfoldable pub bc_text : Word
bc_text = codes "-bc="

-- a flag is a word of `-`, a letter, and whatever follows
unfoldable pub is_flag : Word → Bool
is_flag [] = false
is_flag (b ∷ []) = false
is_flag (b ∷ c ∷ bytes) = b == 45 && is_ascii_alphabetic c

-- a name is a word that doesn't begin with `-`
unfoldable pub is_name : Word → Bool
is_name [] = true
is_name (b ∷ bytes) = not (b == 45)

-- what stands behind these bytes, where the word begins with them
unfoldable pub behind : Word → Word → Option Word
behind [] word = Some word
behind (b ∷ front) [] = None
behind (b ∷ front) (c ∷ word) = if b == c then behind front word else None

-- the number of a boundary condition is from 1, and so is that of a material's domain
abbrev pub from_one : Option ℕ → Option ℕ
from_one None = None
from_one (Some zero) = None
from_one (Some (suc n)) = Some (suc n)

-- what a flag gives: nothing to this row, a value, or a value that is not of its kind
pub data Given (A : Type 0) : Type 0 where
  Nothing : Given A
  Value : A → Given A
  Bad : Given A

abbrev pub value_or_bad : {A : Type 0} → Option A → Given A
value_or_bad None = Bad
value_or_bad (Some x) = Value x

abbrev pub given : {A : Type 0} → Option Word → (Word → Option A) → Given A
given None read = Nothing
given (Some text) read = value_or_bad (read text)

-- the size that a flag gives
unfoldable pub size_in : Word → Given Dec
size_in word = given (behind maxh_text word) decimal_of

-- the boundary condition that a flag gives
unfoldable pub number_in : Word → Given ℕ
number_in word = given (behind bc_text word) (λ text. from_one (whole_of text 999999))
