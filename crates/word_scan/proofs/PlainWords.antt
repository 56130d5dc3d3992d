-- Bytes that are neither white nor begin a comment make a word.
use Rattle.std.proofs.Common.{◌≡◌, ℕ, ◌<◌, ◌≤◌, Bool, true, false, ◌&&◌, not, eqb, List, [], ◌∷◌, ◌++◌, length, Option, Some, None, refl, arith}
use Rattle.std.specs.List.{AllByRecursion}
use Rattle.std.specs.Str.{all_ascii_digits}
use Rattle.std.proofs.lemmas.Bool.{and_parts, and_from, not-true, eqb-false, ne_eqb}
use Rattle.std.proofs.lemmas.Str.Parse.{tells_all_ascii_digits}
use Rattle.word_scan.specs.Bytes.{is_white}
use Rattle.word_scan.specs.Parts.{IsRun, StartsNoNote}
use Rattle.word_scan.specs.Decimals.{Sign, NoSign, Plus, Minus, sign_text, fraction_text, fraction_digits}

unfoldable pub plain_byte : ℕ → Bool
plain_byte b = not (is_white b) && not (eqb b 35)

unfoldable pub plain_bytes : List ℕ → Bool
plain_bytes [] = true
plain_bytes (b ∷ bytes) = plain_byte b && plain_bytes bytes

pub plain_each : (bytes : List ℕ) → plain_bytes bytes ≡ true → AllByRecursion (λ b. is_white b ≡ false) bytes
unfolding plain_bytes plain_byte
plain_each [] e = tt
plain_each (b ∷ bytes) e =
    let h = and_parts (plain_byte b) (plain_bytes bytes) e in
    (not-true (is_white b) (and_parts (not (is_white b)) (not (eqb b 35)) h.0).0, plain_each bytes h.1)

pub plain_start : (bytes : List ℕ) → plain_bytes bytes ≡ true → StartsNoNote bytes
unfolding plain_bytes plain_byte
plain_start [] e = tt
plain_start (b ∷ bytes) e =
    let h = and_parts (plain_byte b) (plain_bytes bytes) e in
    eqb-false b 35 (not-true (eqb b 35) (and_parts (not (is_white b)) (not (eqb b 35)) h.0).1)

pub run_of : (bytes : List ℕ) → 0 < length bytes → plain_bytes bytes ≡ true → IsRun bytes
run_of bytes some e = record { some = some; each = plain_each bytes e; start = plain_start bytes e }

pub plain_both : (a b : List ℕ) → plain_bytes a ≡ true → plain_bytes b ≡ true → plain_bytes (a ++ b) ≡ true
unfolding plain_bytes
plain_both [] b p q = q
plain_both (x ∷ a) b p q =
    let h = and_parts (plain_byte x) (plain_bytes a) p in
    and_from (plain_byte x) (plain_bytes (a ++ b)) h.0 (plain_both a b h.1 q)

plain_digit : (b : ℕ) → 48 ≤ b → plain_byte b ≡ true
unfolding plain_byte
plain_digit b le =
    let e32 : eqb b 32 ≡ false = ne_eqb b 32 (λ e. omega (arith, le, e)) in
    let e9 : eqb b 9 ≡ false = ne_eqb b 9 (λ e. omega (arith, le, e)) in
    let e13 : eqb b 13 ≡ false = ne_eqb b 13 (λ e. omega (arith, le, e)) in
    let e10 : eqb b 10 ≡ false = ne_eqb b 10 (λ e. omega (arith, le, e)) in
    let e35 : eqb b 35 ≡ false = ne_eqb b 35 (λ e. omega (arith, le, e)) in
    rw (e32, e9, e13, e10, e35) refl

pub plain_digits : (ds : List ℕ) → all_ascii_digits ds ≡ true → plain_bytes ds ≡ true
unfolding plain_bytes
plain_digits [] e = refl
plain_digits (b ∷ ds) e =
    let parts = tells_all_ascii_digits.parts b ds e in
    and_from (plain_byte b) (plain_bytes ds) (plain_digit b parts.0.0) (plain_digits ds parts.1)

pub plain_sign : (sign : Sign) → plain_bytes (sign_text sign) ≡ true
unfolding plain_bytes plain_byte
plain_sign NoSign = refl
plain_sign Plus = refl
plain_sign Minus = refl

pub plain_fraction : (fraction : Option (List ℕ)) → all_ascii_digits (fraction_digits fraction) ≡ true
    → plain_bytes (fraction_text fraction) ≡ true
unfolding plain_bytes plain_byte
plain_fraction None e = refl
plain_fraction (Some digits) e = plain_digits digits e
