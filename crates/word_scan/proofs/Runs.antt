-- Runs of digits, and what they write.
use Rattle.std.proofs.Common.{◌≡◌, ℕ, suc, ◌+◌, ◌-◌, ◌*◌, ◌^◌, ◌<◌, ◌≤◌, Bool, true, false, cond, List, [], ◌∷◌, ◌++◌, length, get_or, take, drop, refl, sym, ap, ◌∙◌, arith, pow-add}
use Rattle.std.specs.List.{prefix_len}
use Rattle.std.specs.Char.{is_ascii_digit, digit_value}
use Rattle.std.specs.Str.{all_ascii_digits}
use Rattle.std.specs.Str.Parse.{digits_value_after}
use Rattle.std.proofs.Math.Nat.{one-le-pow, pow-le-pow_right, mul-le-mul_left, mul-le-mul_right, pow-suc}
use Rattle.std.proofs.lemmas.List.{drop_more, at_drop_more}
use Rattle.std.proofs.lemmas.Str.{digit_value_digit}
use Rattle.std.proofs.lemmas.Str.Parse.{tells_all_ascii_digits}

-- the bytes that a run takes are digits
more_digits : (d : Bool) (b n : ℕ) (bytes : List ℕ) → is_ascii_digit b ≡ d → all_ascii_digits (take n bytes) ≡ true → all_ascii_digits (take (cond d (1 + n) 0) (b ∷ bytes)) ≡ true
more_digits true b n bytes e h = let k : 1 + n ≡ suc n = omega arith in rw k (rw e h)
more_digits false b n bytes e h = refl

pub run_is_digits : (bytes : List ℕ) → all_ascii_digits (take (prefix_len is_ascii_digit bytes) bytes) ≡ true
run_is_digits [] = refl
run_is_digits (b ∷ bytes) = more_digits (is_ascii_digit b) b (prefix_len is_ascii_digit bytes) bytes refl (run_is_digits bytes)

-- one digit more
pub record ReadsDigit (digits : List ℕ) (i start : ℕ) : Type 0 where
  pub low : 48 ≤ get_or digits i 0
  pub high : get_or digits i 0 ≤ 57
  pub rest : all_ascii_digits (drop (i + 1) digits) ≡ true
  pub value : digits_value_after 10 start (drop i digits) ≡ digits_value_after 10 (start * 10 + (get_or digits i 0 - 48)) (drop (i + 1) digits)

pub reads_digit : (digits : List ℕ) (i value : ℕ) → i < length digits → all_ascii_digits (drop i digits) ≡ true → ReadsDigit digits i value
reads_digit digits i value inside all =
    let c = get_or digits i 0 in
    let here = drop_more digits i 0 inside in
    let split : all_ascii_digits (c ∷ drop (i + 1) digits) ≡ true = sym (ap all_ascii_digits here) ∙ all in
    let parts = tells_all_ascii_digits.parts c (drop (i + 1) digits) split in
    let digit : digit_value c ≡ c - 48 = omega (arith, digit_value_digit c parts.0) in
    record {
      low = parts.0.0;
      high = parts.0.1;
      rest = parts.1;
      value = at_drop_more (digits_value_after 10 value) digits i 0 inside ∙ ap (λ (d : ℕ). digits_value_after 10 (value * 10 + d) (drop (i + 1) digits)) digit;
    }

-- there is room for one digit more
pub room_left : (value digit n i most : ℕ) → i < n → digit ≤ 9 → (value + 1) * 10 ^ (n - i) ≤ most → (value * 10 + digit + 1) * 10 ^ (n - (i + 1)) ≤ most
room_left value digit n i most inside small room =
    let k : n - i ≡ suc (n - (i + 1)) = omega arith in
    let p = 10 ^ (n - (i + 1)) in
    let step : 10 ^ (n - i) ≡ p * 10 = ap (λ (e : ℕ). 10 ^ e) k ∙ pow-suc 10 (n - (i + 1)) in
    let grown : (value * 10 + digit + 1) * p ≤ (value * 10 + 10) * p = mul-le-mul_right p (omega arith) in
    let same : (value + 1) * (p * 10) ≤ most = rw (← step) room in
    omega (arith, grown, same)

pub room_within : (x k most : ℕ) → x * 10 ^ k ≤ most → x ≤ most
room_within x k most h = omega (arith, mul-le-mul_left x (one-le-pow k 10 (omega arith)), h)

-- n digits behind others write a number below ten to the number of all
pub digits_fit : (m n : ℕ) → m ≤ n → 1 * 10 ^ m ≤ 10 ^ n
digits_fit m n le = omega (arith, pow-le-pow_right {n = 10} (omega arith) le)

pub both_fit : (first m n most : ℕ) → first + 1 ≤ 1 * 10 ^ m → m + n ≤ most → (first + 1) * 10 ^ n ≤ 10 ^ most
both_fit first m n most below few =
    let grown : (first + 1) * 10 ^ n ≤ 10 ^ m * 10 ^ n = mul-le-mul_right (10 ^ n) (omega arith) in
    let all : 10 ^ m * 10 ^ n ≡ 10 ^ (m + n) = sym (pow-add 10 m n) in
    omega (arith, grown, all, digits_fit (m + n) most few)

-- what digits write behind others
pub value_after-append : (start : ℕ) (front behind : List ℕ) → digits_value_after 10 start (front ++ behind) ≡ digits_value_after 10 (digits_value_after 10 start front) behind
value_after-append start [] behind = refl
value_after-append start (b ∷ front) behind = value_after-append (start * 10 + digit_value b) front behind
