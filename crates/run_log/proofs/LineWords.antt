-- What single words of a log say that is written: each is one word, and says what was written.
use Rattle.std.proofs.Common.{◌≡◌, ℕ, suc, ◌≤◌, false, eqb, List, [], ◌∷◌, Option, Some, None, refl, ap, ◌∙◌, arith}
use Rattle.std.specs.Prelude.{ℤ, pos, negsuc, codes}
use Rattle.std.specs.Fmt.{decimal, signed_decimal}
use Rattle.std.proofs.lemmas.Bool.{le-leb, ne_eqb}
use Rattle.std.proofs.lemmas.Str.Parse.{tells_all_ascii_digits}
use Rattle.word_scan.specs.Numerals.{whole_of}
use Rattle.word_scan.specs.Parts.{IsRun}
use Rattle.word_scan.proofs.PlainWords.{plain_byte, plain_bytes, run_of, plain_digits}
use Rattle.word_scan.proofs.NumberTexts.{Digits, digits_of, whole_again, number_run}
use Rattle.vol_format.specs.Text.{IsFrom}
use Rattle.mesh_run.specs.declared.End.{End}
use Rattle.mesh_run.specs.declared.End.TheVariants.{Done, Stuck, Stopped}
use Rattle.run_log.specs.Log.{end_word, limit_word}
use Rattle.run_log.specs.Numbers.{greatest_whole, from_least, whole_in, signed_in, limit_of, end_of}
use Rattle.run_log.specs.Ranges.{IsLimit}

-- ---- whole numbers

pub from_to : (least greatest n : ℕ) → greatest ≤ greatest_whole → IsFrom least greatest n → whole_in least greatest (decimal n) ≡ Some n
from_to least greatest n few r =
    let again = whole_again n greatest r.high (omega (arith, r.high, few)) in
    ap (from_least least) again ∙ rw (le-leb least n r.low) refl

pub whole_run : (n : ℕ) → n ≤ greatest_whole → IsRun (decimal n)
whole_run n few = number_run n (omega (arith, few))

-- ---- numbers with a sign

-- the number's size is at most `least` below 0, and `greatest` else
abbrev pub IsSigned : ℕ → ℕ → ℤ → Type 0
IsSigned least greatest (pos n) = n ≤ greatest
IsSigned least greatest (negsuc n) = suc n ≤ least

-- digits begin with no sign
no_sign : (b : ℕ) → 48 ≤ b → eqb b 45 ≡ false
no_sign b le = ne_eqb b 45 (λ e. omega (arith, le, e))

digits_signed : (n least greatest : ℕ) (ds : List ℕ) → Digits n ds 13 → whole_of ds greatest ≡ Some n → signed_in least greatest ds ≡ Some (pos n)
digits_signed n least greatest [] d e = absurd (omega (arith, d.some))
digits_signed n least greatest (b ∷ ds) d e =
    let first = (tells_all_ascii_digits.parts b ds d.all).0.0 in
    rw (no_sign b first, e) refl

pub signed_says : (least greatest : ℕ) (z : ℤ) → least ≤ greatest_whole → greatest ≤ greatest_whole → IsSigned least greatest z → signed_in least greatest (signed_decimal z) ≡ Some z
signed_says least greatest (pos n) p q r =
    digits_signed n least greatest (decimal n) (digits_of n 13 (omega arith) (omega arith) (omega (arith, q, r))) (whole_again n greatest r (omega (arith, q, r)))
signed_says least greatest (negsuc n) p q r = rw (whole_again (suc n) least r (omega (arith, p, r))) refl

pub signed_run : (least greatest : ℕ) (z : ℤ) → least ≤ greatest_whole → greatest ≤ greatest_whole → IsSigned least greatest z → IsRun (signed_decimal z)
unfolding plain_bytes plain_byte
signed_run least greatest (pos n) p q r = whole_run n (omega (arith, q, r))
signed_run least greatest (negsuc n) p q r =
    let d = digits_of (suc n) 13 (omega arith) (omega arith) (omega (arith, p, r)) in
    run_of (45 ∷ decimal (suc n)) (omega arith) (plain_digits (decimal (suc n)) d.all)

-- ---- limits

digits_given : (n : ℕ) (ds : List ℕ) → Digits n ds 13 → whole_of ds 1000000000000 ≡ Some n → limit_of ds ≡ Some (Some n)
digits_given n [] d e = absurd (omega (arith, d.some))
digits_given n (b ∷ ds) d e =
    let first = (tells_all_ascii_digits.parts b ds d.all).0.0 in
    rw (no_sign b first, e) refl

pub limit_says : (limit : Option ℕ) → IsLimit limit → limit_of (limit_word limit) ≡ Some limit
limit_says None r = refl
limit_says (Some n) r =
    digits_given n (decimal n) (digits_of n 13 (omega arith) (omega arith) (omega (arith, r))) (whole_again n 1000000000000 r (omega (arith, r)))

pub limit_run : (limit : Option ℕ) → IsLimit limit → IsRun (limit_word limit)
unfolding plain_bytes plain_byte
limit_run None r = run_of (codes "-") (omega arith) refl
limit_run (Some n) r = whole_run n (omega (arith, r))

-- ---- ends

pub end_says : (end : End) → end_of (end_word end) ≡ Some end
end_says Done = refl
end_says Stuck = refl
end_says Stopped = refl

pub end_run : (end : End) → IsRun (end_word end)
unfolding plain_bytes plain_byte
end_run Done = run_of (codes "done") (omega arith) refl
end_run Stuck = run_of (codes "stuck") (omega arith) refl
end_run Stopped = run_of (codes "stopped") (omega arith) refl
