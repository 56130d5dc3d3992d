-- A number is written in digits, which are one word, and are read as the number that it was.
use Rattle.std.proofs.Common.{◌≡◌, ℕ, ◌^◌, ◌<◌, ◌≤◌, true, List, length, Some, refl, arith}
use Rattle.std.specs.Prelude.{ℤ, pos, negsuc, unsigned_abs}
use Rattle.std.specs.Fmt.{decimal}
use Rattle.std.specs.Str.{all_ascii_digits}
use Rattle.std.specs.Str.Parse.{digits_value}
use Rattle.std.proofs.lemmas.Bool.{le-leb, lt-ltb}
use Rattle.std.proofs.Math.Nat.{pow-le-pow_right}
use Rattle.std.proofs.lemmas.Fmt.{decimal_is_IsNumeral_wide, length-decimal-le_wide}
use Rattle.std.proofs.lemmas.Str.Parse.{IsNumeralModel, numerals_by_value, tells_all_ascii_digits}
use Rattle.word_scan.specs.Parts.{IsRun}
use Rattle.word_scan.specs.Numerals.{whole_of, value_of}
use Rattle.word_scan.specs.Decimals.{is_minus, signed, sign_of, sign_text}
use Rattle.word_scan.proofs.PlainWords.{run_of, plain_digits}

own : IsNumeralModel (λ ds. all_ascii_digits ds ≡ true) (digits_value 10)
own = numerals_by_value _ tells_all_ascii_digits

-- at least one digit, at most so many, that write a number
pub record Digits (m : ℕ) (ds : List ℕ) (most : ℕ) : Type 0 where
  pub all : all_ascii_digits ds ≡ true
  pub value : value_of ds ≡ m
  pub some : 0 < length ds
  pub few : length ds ≤ most

pub digits_of : (m k : ℕ) → 0 < k → k ≤ 30 → m < 10 ^ k → Digits m (decimal m) k
digits_of m k some le small =
    let fits : m < 10 ^ 64 = omega (arith, small, pow-le-pow_right {n = 10} (omega arith) le) in
    let numeral = decimal_is_IsNumeral_wide m fits in
    record {
      all = own.from (decimal m) numeral.0.1;
      value = numeral.1;
      some = omega (arith, numeral.0.0);
      few = length-decimal-le_wide k m some small fits;
    }

pub whole_again : (n greatest : ℕ) → n ≤ greatest → n < 10 ^ 13 → whole_of (decimal n) greatest ≡ Some n
whole_again n greatest le small =
    let d = digits_of n 13 (omega arith) (omega arith) small in
    rw (lt-ltb 0 (length (decimal n)) d.some, le-leb (length (decimal n)) 13 d.few, d.all, d.value, le-leb n greatest le) refl

pub number_run : (n : ℕ) → n < 10 ^ 13 → IsRun (decimal n)
number_run n small =
    let d = digits_of n 13 (omega arith) (omega arith) small in
    run_of (decimal n) d.some (plain_digits (decimal n) d.all)

-- ---- a number's sign

pub signed_again : (z : ℤ) → signed (is_minus (sign_of z)) (unsigned_abs z) ≡ z
signed_again (pos n) = refl
signed_again (negsuc n) = refl

pub sign_short : (z : ℤ) → length (sign_text (sign_of z)) ≤ 1
sign_short (pos n) = omega arith
sign_short (negsuc n) = omega arith
