-- What single words say.
use Rattle.std.proofs.Common.{◌≡◌, ℕ, ◌^◌, ◌<◌, Bool, true, false, ◌&&◌, List, length, refl, nat_lt, arith}
use Rattle.std.specs.Prelude.{nat_le}
use Rattle.std.specs.Option.{is_some}
use Rattle.std.proofs.lemmas.Bool.{le-leb, lt-ltb, leb-true, ltb-true, and_parts}
use Rattle.std.specs.Str.{all_ascii_digits}
use Rattle.std.proofs.lemmas.Str.Parse.{tells_all_ascii_digits, numerals_by_value, digits_value_short}
use Rattle.word_scan.specs.Numerals.{IsWhole, value_of, is_whole, whole_of}

-- thirteen digits write a number below 10^13
pub whole_below : (word : List ℕ) → IsWhole word → value_of word < 10 ^ 13
whole_below word is = digits_value_short (numerals_by_value (λ (cs : List ℕ). all_ascii_digits cs ≡ true) tells_all_ascii_digits) word 13 is.digits is.few

pub told_whole : (word : List ℕ) → is_whole word ≡ true → IsWhole word
told_whole word e =
    let p = and_parts (nat_lt 0 (length word) && nat_le (length word) 13) (all_ascii_digits word) e in
    let q = and_parts (nat_lt 0 (length word)) (nat_le (length word) 13) p.0 in
    record { digits = p.1; some = ltb-true _ _ q.0; few = leb-true _ _ q.1 }

pub whole_told : (word : List ℕ) → IsWhole word → is_whole word ≡ true
whole_told word is = rw (lt-ltb 0 (length word) is.some, le-leb (length word) 13 is.few, is.digits) refl

any_by : (word : List ℕ) (b : Bool) → is_whole word ≡ b → is_some (whole_of word 9999999999999) ≡ b
any_by word true e = rw (e, le-leb (value_of word) 9999999999999 (omega (arith, whole_below word (told_whole word e)))) refl
any_by word false e = rw e refl

-- each whole number is at most the greatest of thirteen digits
pub any_whole : (word : List ℕ) → is_some (whole_of word 9999999999999) ≡ is_whole word
any_whole word = any_by word (is_whole word) refl
