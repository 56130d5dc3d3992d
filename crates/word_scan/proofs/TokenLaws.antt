-- What stands at the front of some bytes: the longest token, or none.
use Rattle.std.proofs.Common.{◌≡◌, ◌≢◌, ℕ, suc, ◌+◌, ◌-◌, ◌<◌, ◌≤◌, Bool, true, false, cond, eqb, ltb, List, [], ◌∷◌, ◌++◌, length, get_or, Option, Some, None, refl, sym, ap, subst, ◌∙◌, arith, length-append}
use Rattle.std.specs.List.{prefix_len, AllByRecursion}
use Rattle.std.specs.Char.{is_ascii_digit, is_ascii_alphabetic, is_ascii_alphanumeric}
use Rattle.std.specs.Str.{all_ascii_digits}
use Rattle.std.proofs.Math.Seq.{get_or-append_seam}
use Rattle.std.proofs.lemmas.Bool.{ne_eqb, lt-ltb, lt-leb, both_ways, and_left, and_parts, or_from}
use Rattle.std.proofs.lemmas.List.{length-drop}
use Rattle.std.proofs.lemmas.Str.Parse.{tells_all_ascii_digits}
use Rattle.word_scan.specs.declared.scanner.Kind.TheVariants.{Text, Number, Name}
use Rattle.word_scan.specs.Decimals.{Sign, NoSign, Plus, Minus, sign_text, fraction_text, fraction_digits, is_minus, sign_at, digits_at, fraction_at}
use Rattle.word_scan.specs.Tokens.{is_mark, is_inside, text_len, number_len, of_kind, token_at}
use Rattle.word_scan.proofs.DecimalLaws.{EndsDigits, NoSignFirst, digits_read, sign_read, digits_no_sign}

-- ---- runs of bytes

pub over : (p : ℕ → Bool) (front rest : List ℕ) → AllByRecursion (λ b. p b ≡ true) front → prefix_len p (front ++ rest) ≡ length front + prefix_len p rest
over p [] rest all = omega arith
over p (b ∷ front) rest all = let on = over p front rest all.1 in rw (all.0, on) (omega arith)

-- nothing, or a byte that fails the test comes next
abbrev pub Stops : (ℕ → Bool) → List ℕ → Type 0
Stops p [] = Unit {0}
Stops p (b ∷ rest) = p b ≡ false

pub stopped : (p : ℕ → Bool) (rest : List ℕ) → Stops p rest → prefix_len p rest ≡ 0
stopped p [] s = refl
stopped p (b ∷ rest) s = rw s refl

-- digits before others are read with them
pub digits_over : (ds rest : List ℕ) → all_ascii_digits ds ≡ true → digits_at (ds ++ rest) ≡ (ds ++ (digits_at rest).0, (digits_at rest).1)
digits_over [] rest all = refl
digits_over (b ∷ ds) rest all =
    let parts = and_parts (is_ascii_digit b) (all_ascii_digits ds) all in
    let n = prefix_len is_ascii_digit (ds ++ rest) in
    let k : 1 + n ≡ suc n = omega arith in
    rw (parts.0, k) (ap (λ (p : List ℕ × List ℕ). (b ∷ p.0, p.1)) (digits_over ds rest parts.1))

digits_stopped : (rest : List ℕ) → EndsDigits rest → digits_at rest ≡ ([], rest)
digits_stopped [] ends = refl
digits_stopped (b ∷ rest) ends = rw ends refl

-- ---- numbers

-- nothing, or a byte that goes on with no number comes next
abbrev pub EndsNumber : List ℕ → Type 0
EndsNumber [] = Unit {0}
EndsNumber (b ∷ rest) = (is_ascii_digit b ≡ false) × (b ≢ 46)

ends_digits : (rest : List ℕ) → EndsNumber rest → EndsDigits rest
ends_digits [] ends = tt
ends_digits (b ∷ rest) ends = ends.0

no_fraction : (rest : List ℕ) → EndsNumber rest → fraction_at rest ≡ ([], rest)
no_fraction [] ends = refl
no_fraction (b ∷ rest) ends = rw (ne_eqb b 46 ends.1) refl

fraction_within : (bytes : List ℕ) → length (fraction_at bytes).1 ≤ length bytes
fraction_within [] = omega arith
fraction_within (b ∷ bytes) = by (eqb b 46)
  where
    by : (x : Bool) → length (cond x (digits_at bytes) ([], b ∷ bytes)).1 ≤ length (b ∷ bytes)
    by true = omega (arith, length-drop (prefix_len is_ascii_digit bytes) bytes)
    by false = omega arith

digits_within : (bytes : List ℕ) → length (digits_at bytes).1 ≤ length bytes
digits_within bytes = omega (arith, length-drop (prefix_len is_ascii_digit bytes) bytes)

-- the length of a number of n bytes with what follows it, where digits and a fraction were read
abbrev left_of : ℕ → List ℕ × List ℕ → List ℕ × List ℕ → Option ℕ
left_of n front fraction = cond (ltb 0 (length front.0 + length fraction.0)) (Some (n - length fraction.1)) None

some_left : (n : ℕ) (front fraction : List ℕ × List ℕ) → 0 < length front.0 + length fraction.0 → left_of n front fraction ≡ Some (n - length fraction.1)
some_left n front fraction some = rw (lt-ltb 0 _ some) refl

abbrev of_signed : ℕ → Bool × List ℕ → Option ℕ
of_signed n s = left_of n (digits_at s.1) (fraction_at (digits_at s.1).1)

abbrev of_digits : ℕ → List ℕ × List ℕ → Option ℕ
of_digits n front = left_of n front (fraction_at front.1)

-- a number before others: what is left behind the longest one, and that it is all where nothing goes on with it
pub record NumberOver (text rest : List ℕ) : Type 0 where
  pub left : List ℕ
  pub short : length left ≤ length rest
  pub len : number_len text ≡ Some (length text - length left)
  pub ends : EndsNumber rest → left ≡ rest

some_first : (front rest : List ℕ) → all_ascii_digits front ≡ true → 0 < length front → NoSignFirst (front ++ rest)
some_first [] rest all some = absurd (omega (arith, some))
some_first (b ∷ front) rest all some = let parts = tells_all_ascii_digits.parts b front all in (λ e. omega (arith, parts.0.0, parts.0.1, e), λ e. omega (arith, parts.0.0, parts.0.1, e))

pub number_over : (sign : Sign) (front : List ℕ) (fraction : Option (List ℕ)) (rest : List ℕ) → all_ascii_digits front ≡ true → all_ascii_digits (fraction_digits fraction) ≡ true → 0 < length front + length (fraction_digits fraction)
    → NumberOver (sign_text sign ++ (front ++ (fraction_text fraction ++ rest))) rest
number_over sign front None rest all behind some =
    let text = sign_text sign ++ (front ++ rest) in
    let n = length text in
    let more = digits_at rest in
    let fraction = fraction_at more.1 in
    let s : sign_at text ≡ (is_minus sign, front ++ rest) = sign_read sign (front ++ rest) (some_first front rest all (omega (arith, some))) in
    let d : digits_at (front ++ rest) ≡ (front ++ more.0, more.1) = digits_over front rest all in
    let any : 0 < length (front ++ more.0) + length fraction.0 = omega (arith, some, length-append front more.0) in
    record {
      left = fraction.1;
      short = omega (arith, fraction_within more.1, digits_within rest);
      len = ap (of_signed n) s ∙ ap (of_digits n) d ∙ some_left n (front ++ more.0, more.1) fraction any;
      ends = λ e. ap (λ (p : List ℕ × List ℕ). (fraction_at p.1).1) (digits_stopped rest (ends_digits rest e)) ∙ ap (λ (p : List ℕ × List ℕ). p.1) (no_fraction rest e);
    }
number_over sign front (Some ds) rest all behind some =
    let tail = 46 ∷ (ds ++ rest) in
    let text = sign_text sign ++ (front ++ tail) in
    let n = length text in
    let more = digits_at rest in
    let point : NoSignFirst tail = (λ h. omega (arith, h), λ h. omega (arith, h)) in
    let s : sign_at text ≡ (is_minus sign, front ++ tail) = sign_read sign (front ++ tail) (digits_no_sign front tail all point) in
    let d : digits_at (front ++ tail) ≡ (front, tail) = digits_read front tail all refl in
    let f : digits_at (ds ++ rest) ≡ (ds ++ more.0, more.1) = digits_over ds rest behind in
    let any : 0 < length front + length (ds ++ more.0) = omega (arith, some, length-append ds more.0) in
    record {
      left = more.1;
      short = digits_within rest;
      len = ap (of_signed n) s ∙ ap (of_digits n) d ∙ ap (left_of n (front, tail)) f ∙ some_left n (front, tail) (ds ++ more.0, more.1) any;
      ends = λ e. ap (λ (p : List ℕ × List ℕ). p.1) (digits_stopped rest (ends_digits rest e));
    }

-- ---- the first byte of a token

-- a byte that passes the test is none that fails it
pub other : (p : ℕ → Bool) (b c : ℕ) → p b ≡ true → p c ≡ false → eqb b c ≡ false
other p b c passes fails = ne_eqb b c (λ e. both_ways (p b) (ap p e ∙ fails) passes)

no_mark : (p : ℕ → Bool) (b : ℕ) → p b ≡ true → p 40 ≡ false → p 41 ≡ false → p 123 ≡ false → p 125 ≡ false → p 44 ≡ false → p 59 ≡ false → is_mark b ≡ false
no_mark p b passes a1 a2 a3 a4 a5 a6 = rw (other p b 40 passes a1, other p b 41 passes a2, other p b 123 passes a3, other p b 125 passes a4, other p b 44 passes a5, other p b 59 passes a6) refl

pub letter_no_mark : (b : ℕ) → is_ascii_alphabetic b ≡ true → is_mark b ≡ false
letter_no_mark b passes = no_mark is_ascii_alphabetic b passes refl refl refl refl refl refl

pub letter_no_quote : (b : ℕ) → is_ascii_alphabetic b ≡ true → eqb b 34 ≡ false
letter_no_quote b passes = other is_ascii_alphabetic b 34 passes refl

-- bytes that begin as a number may
pub record StartsNumber (bytes : List ℕ) : Type 0 where
  pub first : ℕ
  pub others : List ℕ
  pub text : bytes ≡ first ∷ others
  pub mark : is_mark first ≡ false
  pub quote : eqb first 34 ≡ false
  pub letter : is_ascii_alphabetic first ≡ false

digit_starts : (b : ℕ) (ds rest : List ℕ) → all_ascii_digits (b ∷ ds) ≡ true → StartsNumber (b ∷ rest)
digit_starts b ds rest all =
    let parts = tells_all_ascii_digits.parts b ds all in
    let digit = (and_parts (is_ascii_digit b) (all_ascii_digits ds) all).0 in
    record {
      first = b;
      others = rest;
      text = refl;
      mark = no_mark is_ascii_digit b digit refl refl refl refl refl refl;
      quote = other is_ascii_digit b 34 digit refl;
      letter = or_from _ _ (and_left _ _ (lt-leb 65 b (omega (arith, parts.0.1)))) (and_left _ _ (lt-leb 97 b (omega (arith, parts.0.1))));
    }

starts_as : (b : ℕ) (rest : List ℕ) → is_mark b ≡ false → eqb b 34 ≡ false → is_ascii_alphabetic b ≡ false → StartsNumber (b ∷ rest)
starts_as b rest mark quote letter = record { first = b; others = rest; text = refl; mark = mark; quote = quote; letter = letter }

pub number_starts : (sign : Sign) (front : List ℕ) (fraction : Option (List ℕ)) (rest : List ℕ) → all_ascii_digits front ≡ true → 0 < length front + length (fraction_digits fraction) → StartsNumber (sign_text sign ++ (front ++ (fraction_text fraction ++ rest)))
number_starts Plus front fraction rest all some = starts_as 43 _ refl refl refl
number_starts Minus front fraction rest all some = starts_as 45 _ refl refl refl
number_starts NoSign (b ∷ front) fraction rest all some = digit_starts b front _ all
number_starts NoSign [] None rest all some = absurd (omega (arith, some))
number_starts NoSign [] (Some ds) rest all some = starts_as 46 _ refl refl refl

-- ---- tokens before others

pub token_of_number : (text : List ℕ) → StartsNumber text → token_at text ≡ of_kind Number 0 (number_len text)
unfolding token_at
token_of_number text starts = subst (λ (t : List ℕ). token_at t ≡ of_kind Number 0 (number_len t)) (sym starts.text) (by starts.first starts.others starts.mark starts.quote starts.letter)
  where
    by : (b : ℕ) (bytes : List ℕ) → is_mark b ≡ false → eqb b 34 ≡ false → is_ascii_alphabetic b ≡ false → token_at (b ∷ bytes) ≡ of_kind Number 0 (number_len (b ∷ bytes))
    by b bytes mark quote letter = rw (mark, quote, letter) refl

pub token_of_name : (b : ℕ) (others rest : List ℕ) → is_ascii_alphabetic b ≡ true → AllByRecursion (λ c. is_ascii_alphanumeric c ≡ true) others → token_at (b ∷ (others ++ rest)) ≡ Some (Name, length others + prefix_len is_ascii_alphanumeric rest + 1)
unfolding token_at
token_of_name b others rest letter each = rw (letter_no_mark b letter, letter_no_quote b letter, letter, over is_ascii_alphanumeric others rest each) refl

inside_each : (inside : List ℕ) → AllByRecursion (λ b. (b ≢ 34) × (b ≢ 10)) inside → AllByRecursion (λ b. is_inside b ≡ true) inside
inside_each [] each = tt
inside_each (b ∷ inside) each = (rw (ne_eqb b 34 each.0.0, ne_eqb b 10 each.0.1) refl, inside_each inside each.1)

pub token_of_text : (inside rest : List ℕ) → AllByRecursion (λ b. (b ≢ 34) × (b ≢ 10)) inside → token_at (34 ∷ (inside ++ 34 ∷ rest)) ≡ Some (Text, length inside + 2)
unfolding token_at
token_of_text inside rest each =
    let len : text_len (inside ++ 34 ∷ rest) ≡ length inside = over is_inside inside (34 ∷ rest) (inside_each inside each) ∙ omega arith in
    let quote : get_or (inside ++ 34 ∷ rest) (length inside) 0 ≡ 34 = get_or-append_seam inside 34 rest 0 in
    rw (len, quote) refl

-- ---- exactly the token, where nothing goes on with it

pub exact_number : (sign : Sign) (front : List ℕ) (fraction : Option (List ℕ)) (rest : List ℕ) → all_ascii_digits front ≡ true → all_ascii_digits (fraction_digits fraction) ≡ true → 0 < length front + length (fraction_digits fraction) → EndsNumber rest
    → token_at (sign_text sign ++ (front ++ (fraction_text fraction ++ rest))) ≡ Some (Number, length (sign_text sign ++ (front ++ fraction_text fraction)))
exact_number sign front fraction rest all behind some ends =
    let text = sign_text sign ++ (front ++ (fraction_text fraction ++ rest)) in
    let o = number_over sign front fraction rest all behind some in
    let left : length o.left ≡ length rest = ap length (o.ends ends) in
    let a = length-append (sign_text sign) (front ++ (fraction_text fraction ++ rest)) in
    let b = length-append front (fraction_text fraction ++ rest) in
    let c = length-append (fraction_text fraction) rest in
    let d = length-append (sign_text sign) (front ++ fraction_text fraction) in
    let e = length-append front (fraction_text fraction) in
    let count : length text - length o.left + 0 ≡ length (sign_text sign ++ (front ++ fraction_text fraction)) = omega (arith, left, a, b, c, d, e) in
    token_of_number text (number_starts sign front fraction rest all some) ∙ ap (of_kind Number 0) o.len ∙ ap (λ (n : ℕ). Some (Number, n)) count

pub exact_name : (b : ℕ) (others rest : List ℕ) → is_ascii_alphabetic b ≡ true → AllByRecursion (λ c. is_ascii_alphanumeric c ≡ true) others → Stops is_ascii_alphanumeric rest → token_at (b ∷ (others ++ rest)) ≡ Some (Name, length (b ∷ others))
exact_name b others rest letter each ends =
    let count : length others + prefix_len is_ascii_alphanumeric rest + 1 ≡ suc (length others) = omega (arith, stopped is_ascii_alphanumeric rest ends) in
    token_of_name b others rest letter each ∙ ap (λ (n : ℕ). Some (Name, n)) count

pub exact_text : (inside rest : List ℕ) → AllByRecursion (λ b. (b ≢ 34) × (b ≢ 10)) inside → token_at (34 ∷ (inside ++ 34 ∷ rest)) ≡ Some (Text, length (34 ∷ (inside ++ 34 ∷ [])))
exact_text inside rest each =
    let count : length inside + 2 ≡ suc (length (inside ++ 34 ∷ [])) = omega (arith, length-append inside (34 ∷ [])) in
    token_of_text inside rest each ∙ ap (λ (n : ℕ). Some (Text, n)) count
