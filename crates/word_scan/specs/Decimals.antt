-- What a decimal is.
--
-- DecimalParts  the parts that a decimal is written in
-- IsDecimal     parts that make a decimal
-- spelling      the bytes of the parts
-- value         the number that the parts write
-- decimal_of    the decimal that a word writes, where it is one
use Rattle.std.specs.Prelude.{◌≡◌, ℕ, ◌+◌, ◌<◌, ◌≤◌, ◌⊎◌, Bool, true, false, ◌&&◌, ◌||◌, ◌==◌, nat_lt, nat_le, if◌then◌else◌, List, [], ◌∷◌, ◌++◌, length, take, drop, Option, Some, None, ℤ, pos, negsuc, neg_ℤ, ◌-ℤ◌, unsigned_abs}
use Rattle.std.specs.List.{prefix_len}
use Rattle.std.specs.Char.{is_ascii_digit}
use Rattle.std.specs.Str.{all_ascii_digits}
use Rattle.word_scan.specs.declared.decimals.Dec.{Dec}
use Rattle.word_scan.specs.Numerals.{value_of}

pub data Sign : Type 0 where
  NoSign : Sign
  Plus : Sign
  Minus : Sign

-- an exponent's letter, sign and digits
pub record Power : Type 0 where
  pub letter : ℕ
  pub sign : Sign
  pub digits : List ℕ

-- a sign, the digits before the point, the point with the digits behind it, and an exponent
pub record DecimalParts : Type 0 where
  pub sign : Sign
  pub front : List ℕ
  pub fraction : Option (List ℕ)
  pub power : Option Power

abbrev pub sign_text : Sign → List ℕ
sign_text NoSign = []
sign_text Plus = 43 ∷ []
sign_text Minus = 45 ∷ []

abbrev pub fraction_text : Option (List ℕ) → List ℕ
fraction_text None = []
fraction_text (Some digits) = 46 ∷ digits

abbrev pub power_text : Option Power → List ℕ
power_text None = []
power_text (Some power) = power.letter ∷ (sign_text power.sign ++ power.digits)

-- a number's sign
abbrev pub sign_of : ℤ → Sign
sign_of (pos n) = NoSign
sign_of (negsuc n) = Minus

-- the bytes of the parts
abbrev pub spelling : DecimalParts → List ℕ
spelling parts = sign_text parts.sign
    ++ (parts.front ++ (fraction_text parts.fraction ++ power_text parts.power))

-- the digits behind the point
abbrev pub fraction_digits : Option (List ℕ) → List ℕ
fraction_digits None = []
fraction_digits (Some digits) = digits

abbrev pub is_minus : Sign → Bool
is_minus NoSign = false
is_minus Plus = false
is_minus Minus = true

abbrev pub signed : Bool → ℕ → ℤ
signed true n = neg_ℤ (pos n)
signed false n = pos n

abbrev pub power_value : Option Power → ℤ
power_value None = pos 0
power_value (Some power) = signed (is_minus power.sign) (value_of power.digits)

-- all digits, before and behind the point, times ten to the exponent less the number of digits behind the point
abbrev pub value : DecimalParts → Dec
value parts = record {
  digits = signed (is_minus parts.sign) (value_of (parts.front ++ fraction_digits parts.fraction));
  scale = power_value parts.power -ℤ pos (length (fraction_digits parts.fraction));
}

-- `e` or `E`, and one or two digits
pub record IsPower (power : Power) : Type 0 where
  pub letter : (power.letter ≡ 101) ⊎ (power.letter ≡ 69)
  pub digits : all_ascii_digits power.digits ≡ true
  pub some : 0 < length power.digits
  pub few : length power.digits ≤ 2

abbrev pub IsPowerIfAny : Option Power → Type 0
IsPowerIfAny None = Unit {0}
IsPowerIfAny (Some power) = IsPower power

-- one to thirty digits, in at most forty bytes, with a scale from -99 to 99
pub record IsDecimal (parts : DecimalParts) : Type 0 where
  pub front : all_ascii_digits parts.front ≡ true
  pub behind : all_ascii_digits (fraction_digits parts.fraction) ≡ true
  pub some : 0 < length parts.front + length (fraction_digits parts.fraction)
  pub few : length parts.front + length (fraction_digits parts.fraction) ≤ 30
  pub power : IsPowerIfAny parts.power
  pub short : length (spelling parts) ≤ 40
  pub scale : unsigned_abs (power_value parts.power -ℤ pos
      (length (fraction_digits parts.fraction))) ≤ 99

-- Reading from left to right: what is read at the front, and what follows it.

-- whether a minus comes first
abbrev pub sign_at : List ℕ → Bool × List ℕ
sign_at [] = (false, [])
sign_at (b ∷ bytes) = if b == 45 then (true, bytes)
    else if b == 43 then (false, bytes)
    else (false, b ∷ bytes)

abbrev pub digits_at : List ℕ → List ℕ × List ℕ
digits_at bytes = (
  take (prefix_len is_ascii_digit bytes) bytes,
  drop (prefix_len is_ascii_digit bytes) bytes,
)

abbrev pub fraction_at : List ℕ → List ℕ × List ℕ
fraction_at [] = ([], [])
fraction_at (b ∷ bytes) = if b == 46 then digits_at bytes else ([], b ∷ bytes)

-- an exponent's sign and digits
abbrev pub power_at : Bool × List ℕ → Option ℤ
power_at (minus, digits) =
    if nat_lt 0 (length digits) && nat_le (length digits) 2 && all_ascii_digits digits
    then Some (signed minus (value_of digits)) else None

abbrev pub exponent_at : List ℕ → Option ℤ
exponent_at [] = Some (pos 0)
exponent_at (b ∷ bytes) = if b == 101 || b == 69 then power_at (sign_at bytes) else None

-- the decimal of a sign, digits before and behind the point, and an exponent
abbrev pub made_of : Bool → List ℕ → List ℕ → Option ℤ → Option Dec
made_of minus front behind None = None
made_of minus front behind (Some power) = if nat_lt 0 (length front + length behind)
    && nat_le (length front + length behind) 30
    && nat_le (unsigned_abs (power -ℤ pos (length behind))) 99
    then Some (record {
      digits = signed minus (value_of (front ++ behind));
      scale = power -ℤ pos (length behind);
    }) else None

abbrev pub after_fraction : Bool → List ℕ → List ℕ × List ℕ → Option Dec
after_fraction minus front (behind, rest) = made_of minus front behind (exponent_at rest)

abbrev pub after_front : Bool → List ℕ × List ℕ → Option Dec
after_front minus (front, rest) = after_fraction minus front (fraction_at rest)

abbrev pub after_sign : Bool × List ℕ → Option Dec
after_sign (minus, rest) = after_front minus (digits_at rest)

unfoldable pub decimal_of : List ℕ → Option Dec
decimal_of word = if nat_le (length word) 40 then after_sign (sign_at word) else None
