-- What a whole number is.
--
-- value_of  the number that digits write
-- IsWhole   a word that writes a whole number
-- whole_of  the whole number that a word writes, where it is one and not above the greatest
use Rattle.std.specs.Prelude.{◌≡◌, ℕ, ◌<◌, ◌≤◌, Bool, true, ◌&&◌, nat_lt, nat_le, if◌then◌else◌, List, length, Option, Some, None}
use Rattle.std.specs.Str.{all_ascii_digits}
use Rattle.std.specs.Str.Parse.{digits_value}

abbrev pub value_of : List ℕ → ℕ
value_of digits = digits_value 10 digits

-- one to thirteen digits, and no sign
pub record IsWhole (word : List ℕ) : Type 0 where
  pub digits : all_ascii_digits word ≡ true
  pub some : 0 < length word
  pub few : length word ≤ 13

abbrev pub is_whole : List ℕ → Bool
is_whole word = nat_lt 0 (length word) && nat_le (length word) 13 && all_ascii_digits word

abbrev pub whole_of : List ℕ → ℕ → Option ℕ
whole_of word greatest = if is_whole word && nat_le (value_of word) greatest
    then Some (value_of word) else None
