-- The numbers of a rule.
--
-- rounded    size / 10^places in units of 1/10,000, rounded to the nearest, halves upwards
-- number_of  the number that is written, in units of 1/10,000, where its size is at most the greatest
use Rattle.std.specs.Prelude.{ℕ, zero, suc, ◌+◌, ◌*◌, ◌/◌, ◌^◌, nat_lt, if◌then◌else◌, List, Option, Some, None, option_and_then, count_by, ℤ, pos, negsuc, neg_ℤ, unsigned_abs}
use Rattle.std.specs.Char.{is_ascii_digit}
use Rattle.word_scan.specs.Decimals.{decimal_of}

abbrev pub digit_count : List ℕ → ℕ
digit_count bytes = count_by is_ascii_digit bytes

abbrev pub rounded : ℕ → ℕ → ℕ
rounded size places = (2 * size * 10000 + 10 ^ places) / (2 * 10 ^ places)

-- this size, with the sign of a number
abbrev pub with_sign : ℤ → ℕ → ℤ
with_sign (pos n) size = pos size
with_sign (negsuc n) size = neg_ℤ (pos size)

-- how many decimals a scale stands for, where it is none to twenty
abbrev pub places_of : ℤ → Option ℕ
places_of (pos zero) = Some 0
places_of (pos (suc n)) = None
places_of (negsuc n) = if nat_lt n 20 then Some (suc n) else None

infixl 10 ◌>>=◌
abbrev pub ◌>>=◌ : {A B : Type 0} → Option A → (A → Option B) → Option B
o >>= f = option_and_then f o

-- at most 20 digits, rounded, and then at most the greatest in size
unfoldable pub number_of : ℕ → List ℕ → Option ℤ
number_of greatest bytes = if nat_lt 20 (digit_count bytes) then None else do
  dec ← decimal_of bytes
  places ← places_of dec.scale
  if nat_lt greatest (rounded (unsigned_abs dec.digits) places) then None
      else Some (with_sign dec.digits (rounded (unsigned_abs dec.digits) places))
