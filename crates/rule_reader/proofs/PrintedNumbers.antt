-- A printed number is read as the number that it was.
use Rattle.std.proofs.Common.{◌≡◌, ◌≢◌, ℕ, zero, suc, ◌+◌, ◌-◌, ◌*◌, ◌/◌, ◌%◌, ◌^◌, ◌<◌, ◌≤◌, Bool, true, false, eqb, ltb, List, [], ◌∷◌, ◌++◌, length, Option, Some, None, ℤ, pos, negsuc, ◌-ℤ◌, unsigned_abs, refl, sym, ap, subst, ◌∙◌, arith, length-append}
use Rattle.std.specs.Fmt.{decimal}
use Rattle.std.specs.Char.{is_ascii_digit, digit_value}
use Rattle.std.specs.Str.{all_ascii_digits}
use Rattle.std.specs.Str.Parse.{digits_value_after}
use Rattle.std.proofs.Math.Nat.{one-le-pow, mod-lt, mul-le-mul_right, pow-suc}
use Rattle.std.proofs.lemmas.Nat.{div-add-mod'}
use Rattle.std.proofs.lemmas.Bool.{ne_eqb, eqb-true, eqb-false, lt-ltb, le-ltb, ltb-true, ltb-false}
use Rattle.std.proofs.lemmas.Int.{ints}
use Rattle.std.proofs.lemmas.List.{append-nil}
use Rattle.std.proofs.lemmas.List.Sums.{count_by-le-length}
use Rattle.std.proofs.lemmas.Str.{digit_value_digit}
use Rattle.std.proofs.lemmas.Str.Parse.{tells_all_ascii_digits}
use Rattle.word_scan.specs.Bytes.{is_white}
use Rattle.word_scan.specs.Numerals.{value_of}
use Rattle.word_scan.specs.Decimals.{Sign, NoSign, Minus, sign_of, is_minus, signed, sign_text, fraction_text, fraction_digits, DecimalParts, IsDecimal, spelling, value, decimal_of}
use Rattle.word_scan.proofs.DecimalLaws.{decimal_read}
use Rattle.word_scan.proofs.Runs.{value_after-append}
use Rattle.word_scan.proofs.NumberTexts.{digits_of}
use Rattle.word_scan.proofs.TokenLaws.{EndsNumber}
use Rattle.rule_reader.specs.Words.{NumberTok}
use Rattle.rule_reader.specs.Numbers.{digit_count, rounded, with_sign, places_of, number_of}
use Rattle.rule_reader.specs.Normal.{minus, decimals, number_text}
use Rattle.rule_reader.specs.Normal as normal
use Rattle.word_scan.proofs.DecimalLaws.{size_of_signed}
use Rattle.rule_reader.proofs.Lexing.{lex, Begins, lex_number}

-- ---- decimals

digit_below : (p q d r part : ℕ) → d * q + r ≡ part → part < q * 10 → d < 10
digit_below p q d r part e small = by (ltb d 10) refl
  where
    by : (b : Bool) → ltb d 10 ≡ b → d < 10
    by true t = ltb-true d 10 t
    by false t = let much : 10 * q ≤ d * q = mul-le-mul_right q (ltb-false d 10 t) in absurd (omega (arith, much, e, small))

regrouped : (start d q r part tens : ℕ) → tens ≡ q * 10 → d * q + r ≡ part → (start * 10 + d) * q + r ≡ start * tens + part
regrouped start d q r part tens t e = rw (t, sym e) (omega arith)

no_decimals : (places part : ℕ) → part ≡ 0 → decimals places part ≡ []
no_decimals zero part none = refl
no_decimals (suc places) part none = rw none refl

first_decimal : (p part : ℕ) → part ≢ 0 → decimals (suc p) part ≡ (48 + part / 10 ^ p) ∷ decimals p (part % 10 ^ p)
first_decimal p part some = rw (ne_eqb part 0 some) refl

abbrev AreDecimals : ℕ → ℕ → List ℕ → Type 0
AreDecimals places part ds = (all_ascii_digits ds ≡ true) × (length ds ≤ places) × ((start : ℕ) → digits_value_after 10 start ds * 10 ^ (places - length ds) ≡ start * 10 ^ places + part)

-- nothing is left behind the last decimal
are_none : (places part : ℕ) → part ≡ 0 → AreDecimals places part []
are_none places part none =
    let k : places - 0 ≡ places = omega arith in
    (refl, omega arith, λ start. rw k (omega (arith, none)))

are_more : (p part : ℕ) → part < 10 ^ suc p → AreDecimals p (part % 10 ^ p) (decimals p (part % 10 ^ p)) → AreDecimals (suc p) part ((48 + part / 10 ^ p) ∷ decimals p (part % 10 ^ p))
are_more p part small more =
    let q = 10 ^ p in
    let d = part / q in
    let r = part % q in
    let ds = decimals p r in
    let tens : 10 ^ suc p ≡ q * 10 = pow-suc 10 p in
    let whole : d * q + r ≡ part = div-add-mod' part q in
    let low : d < 10 = digit_below p q d r part whole (omega (arith, small, tens)) in
    let value : digit_value (48 + d) ≡ d = omega (arith, digit_value_digit (48 + d) (omega arith, omega (arith, low))) in
    let k : suc p - suc (length ds) ≡ p - length ds = omega arith in (
      tells_all_ascii_digits.more (48 + d) ds (omega arith, omega (arith, low)) more.0,
      omega (arith, more.1),
      λ start. ap (λ (x : ℕ). digits_value_after 10 (start * 10 + x) ds * 10 ^ (suc p - suc (length ds))) value ∙ ap (λ (e : ℕ). digits_value_after 10 (start * 10 + d) ds * 10 ^ e) k ∙ more.2 (start * 10 + d)
          ∙ regrouped start d q r part (10 ^ suc p) tens whole,
    )

decimals_by : (p part : ℕ) → part < 10 ^ suc p → (b : Bool) → eqb part 0 ≡ b → AreDecimals p (part % 10 ^ p) (decimals p (part % 10 ^ p)) → AreDecimals (suc p) part (decimals (suc p) part)
decimals_by p part small true e more = let none : part ≡ 0 = eqb-true part 0 e in subst (AreDecimals (suc p) part) (sym (no_decimals (suc p) part none)) (are_none (suc p) part none)
decimals_by p part small false e more = subst (AreDecimals (suc p) part) (sym (first_decimal p part (eqb-false part 0 e))) (are_more p part small more)

decimals_are : (places part : ℕ) → part < 10 ^ places → AreDecimals places part (decimals places part)
decimals_are zero part small = are_none zero part (omega (arith, small))
decimals_are (suc p) part small = decimals_by p part small (eqb part 0) refl (decimals_are p (part % 10 ^ p) (mod-lt part (omega (arith, one-le-pow p 10 (omega arith)))))

-- ---- the number that is read

rounded_back : (v k size : ℕ) → k ≤ 4 → v * 10 ^ (4 - k) ≡ size → rounded v k ≡ size
rounded_back v zero size few e = omega (arith, e)
rounded_back v (suc zero) size few e = omega (arith, e)
rounded_back v (suc (suc zero)) size few e = omega (arith, e)
rounded_back v (suc (suc (suc zero))) size few e = omega (arith, e)
rounded_back v (suc (suc (suc (suc zero)))) size few e = omega (arith, e)
rounded_back v (suc (suc (suc (suc (suc k))))) size few e = absurd (omega (arith, few))

below_nought : (k : ℕ) → pos 0 -ℤ pos (suc k) ≡ negsuc k
below_nought k = omega (arith, ints)

places_back : (k : ℕ) → k ≤ 4 → places_of (pos 0 -ℤ pos k) ≡ Some k
places_back zero few = refl
places_back (suc k) few = let lt : ltb k 20 ≡ true = lt-ltb k 20 (omega (arith, few)) in subst (λ (z : ℤ). places_of z ≡ Some (suc k)) (sym (below_nought k)) (rw lt refl)

scale_small : (k : ℕ) → k ≤ 4 → unsigned_abs (pos 0 -ℤ pos k) ≤ 99
scale_small zero few = omega arith
scale_small (suc k) few = subst (λ (z : ℤ). unsigned_abs z ≤ 99) (sym (below_nought k)) (omega (arith, few))

-- a sign, a whole part and at most four decimals that write a number of this size, in units of 1/10,000
pub record Written (sign : Sign) (front : List ℕ) (fraction : Option (List ℕ)) (size : ℕ) : Type 0 where
  pub before : all_ascii_digits front ≡ true
  pub behind : all_ascii_digits (fraction_digits fraction) ≡ true
  pub some : 0 < length front
  pub short : length front ≤ 4
  pub few : length (fraction_digits fraction) ≤ 4
  pub value : value_of (front ++ fraction_digits fraction) * 10 ^ (4 - length (fraction_digits fraction)) ≡ size

sign_short : (sign : Sign) → length (sign_text sign) ≤ 1
sign_short NoSign = omega arith
sign_short Minus = omega arith
sign_short _ = omega arith

fraction_short : (fraction : Option (List ℕ)) → length (fraction_text fraction) ≤ suc (length (fraction_digits fraction))
fraction_short None = omega arith
fraction_short (Some ds) = omega arith

number_again : (sign : Sign) (front : List ℕ) (fraction : Option (List ℕ)) (size greatest : ℕ) → Written sign front fraction size → size ≤ greatest
    → number_of greatest (sign_text sign ++ (front ++ fraction_text fraction)) ≡ Some (with_sign (signed (is_minus sign) (value_of (front ++ fraction_digits fraction))) size)
unfolding number_of
number_again sign front fraction size greatest w le =
    let bytes = sign_text sign ++ (front ++ fraction_text fraction) in
    let v = value_of (front ++ fraction_digits fraction) in
    let k = length (fraction_digits fraction) in
    let parts : DecimalParts = record { sign = sign; front = front; fraction = fraction; power = None } in
    let same : spelling parts ≡ bytes = ap (λ (t : List ℕ). sign_text sign ++ (front ++ t)) (append-nil (fraction_text fraction)) in
    let len : length bytes ≤ 10 = omega (arith, length-append (sign_text sign) (front ++ fraction_text fraction), length-append front (fraction_text fraction), sign_short sign, fraction_short fraction, w.short, w.few) in
    let is : IsDecimal parts = record {
      front = w.before;
      behind = w.behind;
      some = omega (arith, w.some);
      few = omega (arith, w.short, w.few);
      power = tt;
      short = omega (arith, len, ap length same);
      scale = scale_small k w.few;
    } in
    let decoded : decimal_of bytes ≡ Some (value parts) = ap decimal_of (sym same) ∙ decimal_read parts is in
    let count : ltb 20 (digit_count bytes) ≡ false = le-ltb 20 (digit_count bytes) (omega (arith, len, count_by-le-length is_ascii_digit bytes)) in
    let size_is : unsigned_abs (signed (is_minus sign) v) ≡ v = size_of_signed (is_minus sign) v in
    let round : rounded v k ≡ size = rounded_back v k size w.few w.value in
    let fits : ltb greatest size ≡ false = le-ltb greatest size le in
    rw (count, decoded, places_back k w.few, size_is, round, fits) refl

-- ---- the text of a number

pub record Shape (z : ℤ) : Type 0 where
  pub sign : Sign
  pub front : List ℕ
  pub fraction : Option (List ℕ)
  pub text : number_text z ≡ sign_text sign ++ (front ++ fraction_text fraction)
  pub written : Written sign front fraction (unsigned_abs z)
  pub value : with_sign (signed (is_minus sign) (value_of (front ++ fraction_digits fraction))) (unsigned_abs z) ≡ z

abbrev HasFraction : ℕ → Option (List ℕ) → Type 0
HasFraction part fraction = (normal.fraction_text part ≡ fraction_text fraction) × (all_ascii_digits (fraction_digits fraction) ≡ true) × (length (fraction_digits fraction) ≤ 4)
    × ((start : ℕ) → digits_value_after 10 start (fraction_digits fraction) * 10 ^ (4 - length (fraction_digits fraction)) ≡ start * 10000 + part)

fraction_is : (part : ℕ) → part < 10000 → (fraction : Option (List ℕ)) × HasFraction part fraction
fraction_is part small = by (eqb part 0) refl
  where
    by : (b : Bool) → eqb part 0 ≡ b → (fraction : Option (List ℕ)) × HasFraction part fraction
    by true e = let none : part ≡ 0 = eqb-true part 0 e in (None, (rw e refl, refl, omega arith, λ start. omega (arith, none)))
    by false e = let d = decimals_are 4 part small in (Some (decimals 4 part), (rw e refl, d.0, d.1, d.2))

minus_is : (z : ℤ) → minus z ≡ sign_text (sign_of z)
minus_is (pos n) = refl
minus_is (negsuc n) = refl

value_back : (z : ℤ) (v k : ℕ) → v * 10 ^ k ≡ unsigned_abs z → with_sign (signed (is_minus (sign_of z)) v) (unsigned_abs z) ≡ z
value_back (pos n) v k e = refl
value_back (negsuc n) zero k e = absurd (omega (arith, e))
value_back (negsuc n) (suc v) k e = refl

pub shape_of : (z : ℤ) → unsigned_abs z ≤ 10000000 → Shape z
unfolding number_text
shape_of z small =
    let size = unsigned_abs z in
    let whole = size / 10000 in
    let d = digits_of whole 4 (omega arith) (omega arith) (omega (arith, small)) in
    let f = fraction_is (size % 10000) (omega arith) in
    let ds = fraction_digits f.0 in
    let joined : value_of (decimal whole ++ ds) ≡ digits_value_after 10 whole ds = value_after-append 0 (decimal whole) ds ∙ ap (λ (n : ℕ). digits_value_after 10 n ds) d.value in
    let value : value_of (decimal whole ++ ds) * 10 ^ (4 - length ds) ≡ size = ap (λ (n : ℕ). n * 10 ^ (4 - length ds)) joined ∙ f.1.3 whole ∙ omega arith in
    record {
      sign = sign_of z;
      front = decimal whole;
      fraction = f.0;
      text = ap (λ (t : List ℕ). t ++ (decimal whole ++ normal.fraction_text (size % 10000))) (minus_is z) ∙ ap (λ (t : List ℕ). sign_text (sign_of z) ++ (decimal whole ++ t)) f.1.0;
      written = record { before = d.all; behind = f.1.1; some = d.some; short = d.few; few = f.1.2; value = value };
      value = value_back z (value_of (decimal whole ++ ds)) (4 - length ds) value;
    }

-- read as the number that it was
pub number_back : (greatest : ℕ) (z : ℤ) → unsigned_abs z ≤ greatest → greatest ≤ 10000000 → number_of greatest (number_text z) ≡ Some z
number_back greatest z le small =
    let s = shape_of z (omega (arith, le, small)) in
    ap (number_of greatest) s.text ∙ number_again s.sign s.front s.fraction (unsigned_abs z) greatest s.written le ∙ ap (λ (x : ℤ). Some x) s.value

-- ---- a printed number is one word

digit_begins : (bytes more : List ℕ) → all_ascii_digits bytes ≡ true → 0 < length bytes → Begins (bytes ++ more)
digit_begins [] more all some = absurd (omega (arith, some))
digit_begins (b ∷ bytes) more all some =
    let parts = tells_all_ascii_digits.parts b bytes all in
    let black : is_white b ≡ false = rw (ne_eqb b 32 (λ e. omega (arith, parts.0.0, e)), ne_eqb b 9 (λ e. omega (arith, parts.0.0, e)), ne_eqb b 13 (λ e. omega (arith, parts.0.0, e)), ne_eqb b 10 (λ e. omega (arith, parts.0.0, e))) refl in
    record { b = b; others = bytes ++ more; text = refl; black = black; note = λ e. omega (arith, parts.0.0, e) }

sign_begins : (sign : Sign) (front more : List ℕ) → all_ascii_digits front ≡ true → 0 < length front → Begins (sign_text sign ++ (front ++ more))
sign_begins NoSign front more all some = digit_begins front more all some
sign_begins Minus front more all some = record { b = 45; others = front ++ more; text = refl; black = refl; note = λ e. omega (arith, e) }
sign_begins _ front more all some = record { b = 43; others = front ++ more; text = refl; black = refl; note = λ e. omega (arith, e) }

pub lex_number_text : (z : ℤ) (rest : List ℕ) → unsigned_abs z ≤ 10000000 → EndsNumber rest → lex (number_text z ++ rest) ≡ NumberTok (number_text z) ∷ lex rest
lex_number_text z rest small ends =
    let s = shape_of z small in
    let w = s.written in
    let bytes = sign_text s.sign ++ (s.front ++ fraction_text s.fraction) in
    let read : lex (bytes ++ rest) ≡ NumberTok bytes ∷ lex rest = lex_number s.sign s.front s.fraction rest w.before w.behind (omega (arith, w.some)) ends (sign_begins s.sign s.front (fraction_text s.fraction) w.before w.some) in
    subst (λ (t : List ℕ). lex (t ++ rest) ≡ NumberTok t ∷ lex rest) (sym s.text) read

pub lex_whole : (n : ℕ) (rest : List ℕ) → n ≤ 9999 → EndsNumber rest → lex (decimal n ++ rest) ≡ NumberTok (decimal n) ∷ lex rest
lex_whole n rest small ends =
    let d = digits_of n 4 (omega arith) (omega arith) (omega (arith, small)) in
    let same : decimal n ++ [] ≡ decimal n = append-nil (decimal n) in
    subst (λ (t : List ℕ). lex (t ++ rest) ≡ NumberTok t ∷ lex rest) same (lex_number NoSign (decimal n) None rest d.all refl (omega (arith, d.some)) ends (digit_begins (decimal n) [] d.all d.some))
