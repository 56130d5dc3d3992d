-- The decimal that is read is the one that the word's parts write.
use Rattle.std.proofs.Common.{◌≡◌, ℕ, zero, suc, ◌+◌, ◌^◌, ◌<◌, ◌≤◌, ◌⊎◌, inl, inr, Bool, true, false, cond, ◌&&◌, ◌||◌, eqb, ltb, leb, List, [], ◌∷◌, ◌++◌, length, Option, Some, None, ℤ, pos, ◌-ℤ◌, unsigned_abs, refl, sym, ap, subst, ◌∙◌, arith, length-append}
use Rattle.std.specs.Prelude.{IfSome}
use Rattle.std.specs.List.{prefix_len}
use Rattle.std.specs.Char.{is_ascii_digit}
use Rattle.std.specs.Str.{all_ascii_digits}
use Rattle.std.proofs.lemmas.Bool.{eqb-true, ne_eqb, ltb-true, leb-true, lt-ltb, le-leb, cond-true, or_cases, and_parts}
use Rattle.std.proofs.lemmas.Option.{cond_some}
use Rattle.std.proofs.lemmas.List.{append-nil, take_at, drop_at, take-append-drop}
use Rattle.std.specs.Str.Parse.{digits_value}
use Rattle.std.proofs.lemmas.Str.Parse.{tells_all_ascii_digits, numerals_by_value, digits_value_short}
use Rattle.word_scan.specs.declared.decimals.Dec.{Dec}
use Rattle.word_scan.specs.Numerals.{value_of}
use Rattle.word_scan.specs.Decimals.{Sign, NoSign, Plus, Minus, Power, DecimalParts, sign_text, fraction_text, power_text, spelling, fraction_digits, is_minus, signed, power_value, value, IsPowerIfAny, IsDecimal, sign_at, digits_at, fraction_at, power_at, exponent_at, made_of, after_sign, after_front, after_fraction, decimal_of}
use Rattle.word_scan.proofs.Runs.{run_is_digits}

-- nothing, or a byte that is no digit comes next
abbrev pub EndsDigits : List ℕ → Type 0
EndsDigits [] = Unit {0}
EndsDigits (b ∷ bytes) = is_ascii_digit b ≡ false

both_true : (a b : Bool) → (a && b) ≡ true → (a ≡ true) × (b ≡ true)
both_true true b e = (refl, e)
both_true false b e = absurd cc

-- digits before something else are read as they stand
pub run_of : (digits rest : List ℕ) → all_ascii_digits digits ≡ true → EndsDigits rest → prefix_len is_ascii_digit (digits ++ rest) ≡ length digits
run_of [] [] all ends = refl
run_of [] (b ∷ rest) all ends = rw ends refl
run_of (b ∷ digits) rest all ends =
    let parts = both_true (is_ascii_digit b) (all_ascii_digits digits) all in
    let others = run_of digits rest parts.1 ends in
    rw (parts.0, others) (omega arith)

pub digits_read : (digits rest : List ℕ) → all_ascii_digits digits ≡ true → EndsDigits rest → digits_at (digits ++ rest) ≡ (digits, rest)
digits_read digits rest all ends = rw (run_of digits rest all ends, take_at digits rest (length digits) refl, drop_at digits rest (length digits) refl) refl

-- the power's text begins with no digit, and so does the fraction's
power_ends : (power : Option Power) → IsPowerIfAny power → EndsDigits (power_text power)
power_ends None is = tt
power_ends (Some power) is = elim is.letter [ inl e ↦ rw e refl | inr e ↦ rw e refl ]

fraction_ends : (fraction : Option (List ℕ)) (power : Option Power) → IsPowerIfAny power → EndsDigits (fraction_text fraction ++ power_text power)
fraction_ends None power is = power_ends power is
fraction_ends (Some digits) power is = refl

-- a sign is read where digits follow it
digit_is_no_sign : (b : ℕ) (bytes : List ℕ) → (b ≡ 45 → ⊥) → (b ≡ 43 → ⊥) → sign_at (b ∷ bytes) ≡ (false, b ∷ bytes)
digit_is_no_sign b bytes minus plus = rw (ne_eqb b 45 minus, ne_eqb b 43 plus) refl

abbrev pub NoSignFirst : List ℕ → Type 0
NoSignFirst [] = Unit {0}
NoSignFirst (b ∷ bytes) = (b ≡ 45 → ⊥) × (b ≡ 43 → ⊥)

pub sign_read : (sign : Sign) (rest : List ℕ) → NoSignFirst rest → sign_at (sign_text sign ++ rest) ≡ (is_minus sign, rest)
sign_read NoSign [] none = refl
sign_read NoSign (b ∷ rest) none = digit_is_no_sign b rest none.0 none.1
sign_read Plus rest none = refl
sign_read Minus rest none = refl

pub digits_no_sign : (digits rest : List ℕ) → all_ascii_digits digits ≡ true → NoSignFirst rest → NoSignFirst (digits ++ rest)
digits_no_sign [] rest all none = none
digits_no_sign (b ∷ digits) rest all none =
    let parts = tells_all_ascii_digits.parts b digits all in
    (λ e. omega (arith, parts.0.0, parts.0.1, e), λ e. omega (arith, parts.0.0, parts.0.1, e))

power_no_sign : (power : Option Power) → IsPowerIfAny power → NoSignFirst (power_text power)
power_no_sign None is = tt
power_no_sign (Some power) is = elim is.letter [ inl e ↦ (λ h. omega (arith, e, h), λ h. omega (arith, e, h)) | inr e ↦ (λ h. omega (arith, e, h), λ h. omega (arith, e, h)) ]

fraction_no_sign : (fraction : Option (List ℕ)) (power : Option Power) → IsPowerIfAny power → NoSignFirst (fraction_text fraction ++ power_text power)
fraction_no_sign None power is = power_no_sign power is
fraction_no_sign (Some digits) power is = (λ h. omega (arith, h), λ h. omega (arith, h))

-- a fraction and a power are read as they stand
fraction_read : (fraction : Option (List ℕ)) (power : Option Power) → all_ascii_digits (fraction_digits fraction) ≡ true → IsPowerIfAny power → fraction_at (fraction_text fraction ++ power_text power) ≡ (fraction_digits fraction, power_text power)
fraction_read None None all is = refl
fraction_read None (Some power) all is = elim is.letter [ inl e ↦ rw e refl | inr e ↦ rw e refl ]
fraction_read (Some digits) power all is = digits_read digits (power_text power) all (power_ends power is)

power_digits_read : (minus : Bool) (digits : List ℕ) → all_ascii_digits digits ≡ true → 0 < length digits → length digits ≤ 2 → power_at (minus, digits) ≡ Some (signed minus (value_of digits))
power_digits_read minus digits all some few = rw (lt-ltb 0 (length digits) some, le-leb (length digits) 2 few, all) refl

is_letter : (b : ℕ) → (b ≡ 101) ⊎ (b ≡ 69) → (eqb b 101 || eqb b 69) ≡ true
is_letter b (inl e) = rw e refl
is_letter b (inr e) = rw e refl

power_read : (power : Option Power) → IsPowerIfAny power → exponent_at (power_text power) ≡ Some (power_value power)
power_read None is = refl
power_read (Some power) is =
    let none : NoSignFirst (power.digits ++ []) = digits_no_sign power.digits [] is.digits tt in
    let s : sign_at (sign_text power.sign ++ power.digits) ≡ (is_minus power.sign, power.digits) = sign_read power.sign power.digits (rw append-nil at none) in
    let p : power_at (sign_at (sign_text power.sign ++ power.digits)) ≡ Some (power_value (Some power)) = ap power_at s ∙ power_digits_read (is_minus power.sign) power.digits is.digits is.some is.few in
    cond-true (eqb power.letter 101 || eqb power.letter 69) (power_at (sign_at (sign_text power.sign ++ power.digits))) None (is_letter power.letter is.letter) ∙ p

made_read : (minus : Bool) (front behind : List ℕ) (power : ℤ) → 0 < length front + length behind → length front + length behind ≤ 30 → unsigned_abs (power -ℤ pos (length behind)) ≤ 99
    → made_of minus front behind (Some power) ≡ Some (record { digits = signed minus (value_of (front ++ behind)); scale = power -ℤ pos (length behind) })
made_read minus front behind power some few scale = rw (lt-ltb _ _ some, le-leb _ _ few, le-leb _ _ scale) refl

-- what is spelled so is read
pub decimal_read : (parts : DecimalParts) → IsDecimal parts → decimal_of (spelling parts) ≡ Some (value parts)
unfolding decimal_of
decimal_read parts is =
    let tail = fraction_text parts.fraction ++ power_text parts.power in
    let behind = fraction_digits parts.fraction in
    let minus = is_minus parts.sign in
    let s : sign_at (spelling parts) ≡ (minus, parts.front ++ tail) = sign_read parts.sign (parts.front ++ tail) (digits_no_sign parts.front tail is.front (fraction_no_sign parts.fraction parts.power is.power)) in
    let d : digits_at (parts.front ++ tail) ≡ (parts.front, tail) = digits_read parts.front tail is.front (fraction_ends parts.fraction parts.power is.power) in
    let f : fraction_at tail ≡ (behind, power_text parts.power) = fraction_read parts.fraction parts.power is.behind is.power in
    let e : exponent_at (power_text parts.power) ≡ Some (power_value parts.power) = power_read parts.power is.power in
    let m : made_of minus parts.front behind (Some (power_value parts.power)) ≡ Some (value parts) = made_read minus parts.front behind (power_value parts.power) is.some is.few is.scale in
    cond-true (leb (length (spelling parts)) 40) (after_sign (sign_at (spelling parts))) None (le-leb _ _ is.short)
    ∙ ap after_sign s ∙ ap (after_front minus) d ∙ ap (after_fraction minus parts.front) f ∙ ap (made_of minus parts.front behind) e ∙ m

-- ---- what is read is spelled so

sign_by : (minus plus : Bool) (b : ℕ) (bytes : List ℕ) → eqb b 45 ≡ minus → eqb b 43 ≡ plus → (sign : Sign) × (b ∷ bytes ≡ sign_text sign ++ (sign_at (b ∷ bytes)).1) × (is_minus sign ≡ (sign_at (b ∷ bytes)).0)
sign_by true plus b bytes m p = let e : b ≡ 45 = eqb-true b 45 m in rw e (Minus, refl, refl)
sign_by false true b bytes m p = let e : b ≡ 43 = eqb-true b 43 p in rw e (Plus, refl, refl)
sign_by false false b bytes m p = rw (m, p) (NoSign, refl, refl)

pub sign_found : (bytes : List ℕ) → (sign : Sign) × (bytes ≡ sign_text sign ++ (sign_at bytes).1) × (is_minus sign ≡ (sign_at bytes).0)
sign_found [] = (NoSign, refl, refl)
sign_found (b ∷ bytes) = sign_by (eqb b 45) (eqb b 43) b bytes refl refl

pub digits_found : (bytes : List ℕ) → (bytes ≡ (digits_at bytes).0 ++ (digits_at bytes).1) × (all_ascii_digits (digits_at bytes).0 ≡ true)
digits_found bytes = (sym (take-append-drop (prefix_len is_ascii_digit bytes) bytes), run_is_digits bytes)

pub record IsFraction (bytes : List ℕ) (read : List ℕ × List ℕ) : Type 0 where
  pub fraction : Option (List ℕ)
  pub text : bytes ≡ fraction_text fraction ++ read.1
  pub digits : fraction_digits fraction ≡ read.0
  pub all : all_ascii_digits read.0 ≡ true

fraction_by : (point : Bool) (b : ℕ) (bytes : List ℕ) → eqb b 46 ≡ point → IsFraction (b ∷ bytes) (cond point (digits_at bytes) ([], b ∷ bytes))
fraction_by true b bytes e =
    let found = digits_found bytes in
    let point : b ≡ 46 = eqb-true b 46 e in
    record { fraction = Some (digits_at bytes).0; text = rw point (ap (λ (t : List ℕ). 46 ∷ t) found.0); digits = refl; all = found.1 }
fraction_by false b bytes e = record { fraction = None; text = refl; digits = refl; all = refl }

pub fraction_found : (bytes : List ℕ) → IsFraction bytes (fraction_at bytes)
fraction_found [] = record { fraction = None; text = refl; digits = refl; all = refl }
fraction_found (b ∷ bytes) = fraction_by (eqb b 46) b bytes refl

letter_found : (b : ℕ) → (eqb b 101 || eqb b 69) ≡ true → (b ≡ 101) ⊎ (b ≡ 69)
letter_found b e = elim (or_cases (eqb b 101) (eqb b 69) e) [ inl h ↦ inl (eqb-true b 101 h) | inr h ↦ inr (eqb-true b 69 h) ]

record IsExponent (bytes : List ℕ) (x : ℤ) : Type 0 where
  power : Option Power
  is : IsPowerIfAny power
  text : bytes ≡ power_text power
  value : power_value power ≡ x

some_value : {A : Type 0} (b : Bool) (o : Option A) (y : A) → cond b o None ≡ Some y → (b ≡ true) × (o ≡ Some y)
some_value true o y e = (refl, e)
some_value false o y e = absurd cc

exponent_found : (bytes : List ℕ) (x : ℤ) → exponent_at bytes ≡ Some x → IsExponent bytes x
exponent_found [] x e = record { power = None; is = tt; text = refl; value = cc }
exponent_found (b ∷ bytes) x e =
    let letter = some_value (eqb b 101 || eqb b 69) (power_at (sign_at bytes)) x e in
    let minus = (sign_at bytes).0 in
    let digits = (sign_at bytes).1 in
    let sign = sign_found bytes in
    let made = cond_some (ltb 0 (length digits) && leb (length digits) 2 && all_ascii_digits digits) (signed minus (value_of digits)) x letter.1 in
    let outer = and_parts _ _ made.0 in
    let inner = and_parts _ _ outer.0 in
    record {
      power = Some (record { letter = b; sign = sign.0; digits = digits });
      is = record { letter = letter_found b letter.0; digits = outer.1; some = ltb-true _ _ inner.0; few = leb-true _ _ inner.1 };
      text = ap (λ (t : List ℕ). b ∷ t) sign.1;
      value = ap (λ (m : Bool). signed m (value_of digits)) sign.2 ∙ made.1;
    }

record IsMade (minus : Bool) (front behind : List ℕ) (exponent : Option ℤ) (dec : Dec) : Type 0 where
  power : ℤ
  read : exponent ≡ Some power
  some : 0 < length front + length behind
  few : length front + length behind ≤ 30
  scale : unsigned_abs (power -ℤ pos (length behind)) ≤ 99
  value : dec ≡ record { digits = signed minus (value_of (front ++ behind)); scale = power -ℤ pos (length behind) }

made_found : (minus : Bool) (front behind : List ℕ) (read : Option ℤ) (dec : Dec) → made_of minus front behind read ≡ Some dec → IsMade minus front behind read dec
made_found minus front behind None dec e = absurd cc
made_found minus front behind (Some power) dec e =
    let made = cond_some (ltb 0 (length front + length behind) && leb (length front + length behind) 30 && leb (unsigned_abs (power -ℤ pos (length behind))) 99) (record { digits = signed minus (value_of (front ++ behind)); scale = power -ℤ pos (length behind) }) dec e in
    let outer = and_parts _ _ made.0 in
    let inner = and_parts _ _ outer.0 in
    record { power = power; read = refl; some = ltb-true _ _ inner.0; few = leb-true _ _ inner.1; scale = leb-true _ _ outer.1; value = sym made.1 }

-- the parts of a word that is read
abbrev parts_of : Sign → List ℕ → Option (List ℕ) → Option Power → DecimalParts
parts_of sign front fraction power = record { sign = sign; front = front; fraction = fraction; power = power }

pub decimal_found : (word : List ℕ) (dec : Dec) → decimal_of word ≡ Some dec → (parts : DecimalParts) × IsDecimal parts × (word ≡ spelling parts) × (dec ≡ value parts)
unfolding decimal_of
decimal_found word dec e =
    let short = some_value (leb (length word) 40) (after_sign (sign_at word)) dec e in
    let sign = sign_found word in
    let front = digits_found (sign_at word).1 in
    let fraction = fraction_found (digits_at (sign_at word).1).1 in
    let made = made_found (sign_at word).0 (digits_at (sign_at word).1).0 (fraction_at (digits_at (sign_at word).1).1).0 (exponent_at (fraction_at (digits_at (sign_at word).1).1).1) dec short.1 in
    let power = exponent_found (fraction_at (digits_at (sign_at word).1).1).1 made.power made.read in
    let parts = parts_of sign.0 (digits_at (sign_at word).1).0 fraction.fraction power.power in
    let text : word ≡ spelling parts = sign.1 ∙ ap (λ (t : List ℕ). sign_text sign.0 ++ t) (front.0 ∙ ap (λ (t : List ℕ). (digits_at (sign_at word).1).0 ++ t) (fraction.text ∙ ap (λ (t : List ℕ). fraction_text fraction.fraction ++ t) power.text)) in
    let count : length (fraction_digits fraction.fraction) ≡ length (fraction_at (digits_at (sign_at word).1).1).0 = ap length fraction.digits in
    let is : IsDecimal parts = record {
      front = front.1;
      behind = ap all_ascii_digits fraction.digits ∙ fraction.all;
      some = omega (arith, made.some, count);
      few = omega (arith, made.few, count);
      power = power.is;
      short = subst (λ (t : List ℕ). length t ≤ 40) text (leb-true _ _ short.0);
      scale = rw (power.value, count) made.scale;
    } in
    (parts, is, text, rw (sign.2, fraction.digits, power.value) made.value)

pub is_found : (word : List ℕ) (o : Option Dec) → o ≡ decimal_of word → IfSome o (λ dec. (parts : DecimalParts) × IsDecimal parts × (word ≡ spelling parts) × (dec ≡ value parts))
is_found word None e = tt
is_found word (Some dec) e = decimal_found word dec (sym e)

-- ---- how large a decimal is

pub size_of_signed : (minus : Bool) (n : ℕ) → unsigned_abs (signed minus n) ≡ n
size_of_signed true zero = refl
size_of_signed true (suc n) = refl
size_of_signed false n = refl

pub all_digits_both : (a b : List ℕ) → all_ascii_digits a ≡ true → all_ascii_digits b ≡ true → all_ascii_digits (a ++ b) ≡ true
all_digits_both [] b p q = q
all_digits_both (x ∷ a) b p q =
    let parts = tells_all_ascii_digits.parts x a p in
    tells_all_ascii_digits.more x (a ++ b) parts.0 (all_digits_both a b parts.1 q)

-- it has at most thirty digits
pub decimal_is_small : (parts : DecimalParts) → IsDecimal parts → unsigned_abs (value parts).digits < 10 ^ 30
decimal_is_small parts is =
    let ds = parts.front ++ fraction_digits parts.fraction in
    let few : length ds ≤ 30 = omega (arith, length-append parts.front (fraction_digits parts.fraction), is.few) in
    let small : digits_value 10 ds < 10 ^ 30 = digits_value_short (numerals_by_value (λ (cs : List ℕ). all_ascii_digits cs ≡ true) tells_all_ascii_digits) ds 30 (all_digits_both parts.front (fraction_digits parts.fraction) is.front is.behind) few in
    rw size_of_signed small
