-- What is written is read again.
use Rattle.std.proofs.Common.{◌≡◌, ℕ, zero, suc, ◌*◌, ◌/◌, ◌%◌, ◌^◌, ◌<◌, ◌≤◌, true, false, List, ◌++◌, length, Option, Some, None, refl, sym, ap, subst, ◌∙◌, append_assoc, length-append, arith}
use Rattle.std.specs.Prelude.{ℤ, pos, negsuc, ◌+ℤ◌, ◌*ℤ◌, ◌-ℤ◌, neg_ℤ, unsigned_abs}
use Rattle.std.specs.Int.{is_negative}
use Rattle.std.specs.Fmt.{decimal, sign_text as minus_text}
use Rattle.std.specs.Str.{all_ascii_digits}
use Rattle.std.proofs.lemmas.List.{append-nil}
use Rattle.std.proofs.lemmas.Int.{ints, unsigned_abs-mul}
use Rattle.std.proofs.Math.Nat.{one-le-pow, mul-div-le, mul-le-mul_right}
use Rattle.std.proofs.Math.Dec.{leb-suc-zero}
use Rattle.text_rows.specs.Fixed.{last_digits, fraction, fixed}
use Rattle.text_rows.proofs.FixedLaws.{last_digits-length, fixed_value}
use Rattle.word_scan.specs.declared.decimals.Dec.{Dec}
use Rattle.word_scan.specs.Numerals.{value_of}
use Rattle.word_scan.specs.Parts.{IsRun}
use Rattle.word_scan.specs.Decimals.{decimal_of, sign_of, DecimalParts, IsDecimal, sign_text, fraction_text, fraction_digits, is_minus, signed, value, spelling as decimal_spelling}
use Rattle.word_scan.proofs.DecimalLaws.{decimal_read, all_digits_both}
use Rattle.word_scan.proofs.PlainWords.{plain_byte, plain_bytes, run_of, plain_both, plain_digits, plain_sign}
use Rattle.word_scan.proofs.NumberTexts.{Digits, digits_of, signed_again, sign_short}
use Rattle.grid_geom.specs.declared.TheConstants.{GRID}
use Rattle.vol_format.specs.Text.{Number, Coordinate, Role, tens, Says}
use Rattle.vol_format.specs.Vol.{coordinate}

pub number_says : (k n : ℕ) (role : Role) → n < 10 ^ 13 → Says k (decimal n) (Number role n)
number_says k n role small = let d = digits_of n 13 (omega arith) (omega arith) small in (record { digits = d.all; some = d.some; few = d.few }, d.value)

last_all : (n k : ℕ) → all_ascii_digits (last_digits n k) ≡ true
last_all n zero = refl
last_all n (suc k) = all_digits_both (last_digits (n / 10) k) (decimal (n % 10)) (last_all (n / 10) k) (digits_of (n % 10) 1 (omega arith) (omega arith) (omega arith)).all

sign_is : (z : ℤ) → sign_text (sign_of z) ≡ minus_text (is_negative z)
sign_is (pos n) = let e : is_negative (pos n) ≡ false = leb-suc-zero n in rw e refl
sign_is (negsuc n) = refl

point_part : ℕ → ℕ → Option (List ℕ)
point_part n zero = None
point_part n (suc k) = Some (last_digits n (suc k))

point_digits : (n k : ℕ) → fraction_digits (point_part n k) ≡ last_digits n k
unfolding point_part
point_digits n zero = refl
point_digits n (suc k) = refl

point_text : (n k : ℕ) → fraction_text (point_part n k) ≡ fraction n k
unfolding point_part
point_text n zero = refl
point_text n (suc k) = refl

point_short : (n k : ℕ) → length (fraction n k) ≤ suc k
point_short n zero = omega arith
point_short n (suc k) = omega (arith, last_digits-length n (suc k))

plain_point : (n k : ℕ) → plain_bytes (fraction n k) ≡ true
unfolding plain_bytes plain_byte
plain_point n zero = refl
plain_point n (suc k) = plain_digits (last_digits n (suc k)) (last_all n (suc k))

abbrev parts_of : ℤ → ℕ → DecimalParts
parts_of z k = record { sign = sign_of z; front = decimal (unsigned_abs z / 10 ^ k); fraction = point_part (unsigned_abs z) k; power = None }

spelled : (z : ℤ) (k : ℕ) → decimal_spelling (parts_of z k) ≡ fixed z k
spelled z k =
    let n = unsigned_abs z in
    ap (λ (t : List ℕ). sign_text (sign_of z) ++ (decimal (n / 10 ^ k) ++ t)) (append-nil (fraction_text (point_part n k)) ∙ point_text n k)
    ∙ ap (λ (t : List ℕ). t ++ (decimal (n / 10 ^ k) ++ fraction n k)) (sign_is z)
    ∙ sym (append_assoc (minus_text (is_negative z)) (decimal (n / 10 ^ k)) (fraction n k))

front_small : (n k : ℕ) → n < 10 ^ 12 → n / 10 ^ k < 10 ^ 12
front_small n k small =
    let one : 1 * (n / 10 ^ k) ≤ 10 ^ k * (n / 10 ^ k) = mul-le-mul_right (n / 10 ^ k) (one-le-pow k 10 (omega arith)) in
    omega (arith, one, mul-div-le n (10 ^ k), small)

front_digits : (z : ℤ) (k : ℕ) → unsigned_abs z < 10 ^ 12 → Digits (unsigned_abs z / 10 ^ k) (decimal (unsigned_abs z / 10 ^ k)) 12
front_digits z k small = digits_of (unsigned_abs z / 10 ^ k) 12 (omega arith) (omega arith) (front_small (unsigned_abs z) k small)

fixed_short : (z : ℤ) (k : ℕ) → k ≤ 14 → unsigned_abs z < 10 ^ 12 → length (fixed z k) ≤ 40
fixed_short z k few small =
    let n = unsigned_abs z in
    let d = front_digits z k small in
    omega (arith, length-append (minus_text (is_negative z) ++ decimal (n / 10 ^ k)) (fraction n k), length-append (minus_text (is_negative z)) (decimal (n / 10 ^ k)), d.few, point_short n k, few, sign_short z, ap length (sign_is z))

is_decimal : (z : ℤ) (k : ℕ) → k ≤ 14 → unsigned_abs z < 10 ^ 12 → IsDecimal (parts_of z k)
is_decimal z k few small =
    let n = unsigned_abs z in
    let d = front_digits z k small in
    let long : length (fraction_digits (point_part n k)) ≡ k = ap length (point_digits n k) ∙ last_digits-length n k in
    let scale : unsigned_abs (pos 0 -ℤ pos k) ≤ 99 = omega (arith, ints, few) in
    record {
      front = d.all;
      behind = ap all_ascii_digits (point_digits n k) ∙ last_all n k;
      some = omega (arith, d.some);
      few = omega (arith, d.few, long, few);
      power = tt;
      short = omega (arith, fixed_short z k few small, ap length (spelled z k));
      scale = subst (λ (j : ℕ). unsigned_abs (pos 0 -ℤ pos j) ≤ 99) (sym long) scale;
    }

fixed_read : (z : ℤ) (k : ℕ) → k ≤ 14 → unsigned_abs z < 10 ^ 12 → decimal_of (fixed z k) ≡ Some (record { digits = z; scale = pos 0 -ℤ pos k })
fixed_read z k few small =
    let n = unsigned_abs z in
    let wide : n < 10 ^ 64 = omega (arith, small) in
    let long : length (fraction_digits (point_part n k)) ≡ k = ap length (point_digits n k) ∙ last_digits-length n k in
    let number : value_of (decimal (n / 10 ^ k) ++ fraction_digits (point_part n k)) ≡ n = ap (λ (ds : List ℕ). value_of (decimal (n / 10 ^ k) ++ ds)) (point_digits n k) ∙ fixed_value n k wide in
    let digits : signed (is_minus (sign_of z)) (value_of (decimal (n / 10 ^ k) ++ fraction_digits (point_part n k))) ≡ z = ap (signed (is_minus (sign_of z))) number ∙ signed_again z in
    let same : value (parts_of z k) ≡ record { digits = z; scale = pos 0 -ℤ pos k } = ap (λ (v : ℤ). record { digits = v; scale = pos 0 -ℤ pos (length (fraction_digits (point_part n k))) }) digits ∙ ap (λ (j : ℕ). record { digits = z; scale = pos 0 -ℤ pos j }) long in
    ap decimal_of (sym (spelled z k)) ∙ decimal_read (parts_of z k) (is_decimal z k few small) ∙ ap (λ (d : Dec). Some d) same

pub coordinate_says : (k : ℕ) (x : ℤ) → k ≤ 14 → unsigned_abs x ≤ unsigned_abs GRID → Says k (coordinate k x) (Coordinate x)
coordinate_says k x few small =
    let z = x *ℤ pos 15625 in
    let size : unsigned_abs z < 10 ^ 12 = omega (arith, unsigned_abs-mul x (pos 15625), small) in
    let none : (pos 0 -ℤ pos k) +ℤ pos k ≡ pos 0 = omega (arith, ints) in
    let place : z *ℤ pos (tens (pos 0)) ≡ x *ℤ pos (15625 * tens (neg_ℤ (pos 0))) = omega (arith, ints) in
    (record { digits = z; scale = pos 0 -ℤ pos k }, fixed_read z k few size, subst (λ (s : ℤ). z *ℤ pos (tens s) ≡ x *ℤ pos (15625 * tens (neg_ℤ s))) (sym none) place)

pub coordinate_run : (k : ℕ) (x : ℤ) → k ≤ 14 → unsigned_abs x ≤ unsigned_abs GRID → IsRun (coordinate k x)
coordinate_run k x few small =
    let z = x *ℤ pos 15625 in
    let n = unsigned_abs z in
    let size : n < 10 ^ 12 = omega (arith, unsigned_abs-mul x (pos 15625), small) in
    let d = front_digits z k size in
    let sign : plain_bytes (minus_text (is_negative z)) ≡ true = ap plain_bytes (sym (sign_is z)) ∙ plain_sign (sign_of z) in
    run_of (fixed z k) (omega (arith, length-append (minus_text (is_negative z) ++ decimal (n / 10 ^ k)) (fraction n k), length-append (minus_text (is_negative z)) (decimal (n / 10 ^ k)), d.some))
    (plain_both (minus_text (is_negative z) ++ decimal (n / 10 ^ k)) (fraction n k) (plain_both (minus_text (is_negative z)) (decimal (n / 10 ^ k)) sign (plain_digits (decimal (n / 10 ^ k)) d.all)) (plain_point n k))
