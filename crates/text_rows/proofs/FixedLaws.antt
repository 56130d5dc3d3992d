-- What the text of a number with fixed decimals says: exactly so many digits after the point, and
-- the digits before and after it together are those of the number.
use Rattle.std.proofs.Common.{◌≡◌, ℕ, zero, suc, ◌+◌, ◌/◌, ◌%◌, ◌^◌, ◌<◌, [], ◌∷◌, ◌++◌, length, refl, sym, ap, ◌∙◌, append_assoc, arith, rules, length-append}
use Rattle.std.specs.Fmt.{decimal}
use Rattle.std.specs.Char.{digit_value}
use Rattle.std.specs.Str.Parse.{digits_value}
use Rattle.std.proofs.lemmas.Fmt.{decimal_digit, decimal_is_IsNumeral_wide}
use Rattle.std.proofs.lemmas.Str.{digit_value_digit}
use Rattle.std.proofs.lemmas.Int.Digits.{digits_value_push}
use Rattle.std.proofs.lemmas.List.{append-nil}
use Rattle.std.proofs.Math.Nat.{div-div-eq-div-mul, div-one, pow-succ'}
use Rattle.text_rows.specs.Fixed.{last_digits}

-- a number below ten is one digit
last_digit : (n : ℕ) → decimal (n % 10) ≡ (48 + n % 10) ∷ []
last_digit n = decimal_digit (n % 10) (omega arith)

-- and this digit has the number's value
digit_value-last : (n : ℕ) → digit_value (48 + n % 10) ≡ n % 10
digit_value-last n = omega (arith, digit_value_digit (48 + n % 10) (search rules))

-- dividing by one more ten
div-ten : (n k : ℕ) → n / 10 ^ suc k ≡ n / 10 / 10 ^ k
div-ten n k = rw (pow-succ' 10 k) (sym (div-div-eq-div-mul n 10 (10 ^ k)))

-- the last k digits are k digits
pub last_digits-length : (n k : ℕ) → length (last_digits n k) ≡ k
last_digits-length n zero = refl
last_digits-length n (suc k) =
    omega (arith, length-append (last_digits (n / 10) k) (decimal (n % 10)), last_digits-length (n / 10) k, ap length (last_digit n))

-- the digits before the point and those after it are together the digits of the number
pub fixed_value : (n k : ℕ) → n < 10 ^ 64 → digits_value 10 (decimal (n / 10 ^ k) ++ last_digits n k) ≡ n
fixed_value n zero small = rw (append-nil (decimal (n / 1)), div-one) ((decimal_is_IsNumeral_wide n small).1)
fixed_value n (suc k) small =
    rw (div-ten n k, last_digit n)
    (ap (digits_value 10) (sym (append_assoc (decimal (n / 10 / 10 ^ k)) (last_digits (n / 10) k) ((48 + n % 10) ∷ [])))
    ∙ digits_value_push 10 (decimal (n / 10 / 10 ^ k) ++ last_digits (n / 10) k) (48 + n % 10)
    ∙ let before : digits_value 10 (decimal (n / 10 / 10 ^ k) ++ last_digits (n / 10) k) ≡ n / 10 = fixed_value (n / 10) k (omega arith) in
    omega (arith, before, digit_value-last n))
