-- The token that is found is the longest that stands there, and none is found exactly where none stands.
use Rattle.std.proofs.Common.{◌≡◌, ◌≢◌, ℕ, suc, ◌+◌, ◌-◌, ◌<◌, ◌≤◌, Bool, true, false, cond, eqb, ltb, List, [], ◌∷◌, ◌++◌, length, get_or, take, drop, Option, Some, None, refl, sym, ap, subst, ◌∙◌, arith, append_assoc, length-append}
use Rattle.std.specs.List.{prefix_len, AllByRecursion}
use Rattle.std.specs.Char.{is_ascii_alphabetic, is_ascii_alphanumeric}
use Rattle.std.specs.Str.{all_ascii_digits}
use Rattle.std.proofs.lemmas.Bool.{eqb-true, both_ways, ltb-true, ltb-false}
use Rattle.std.proofs.lemmas.Option.{cond_some}
use Rattle.std.proofs.lemmas.List.{length-take, take-append-drop, take_at, take_more, get_or_past}
use Rattle.std.proofs.lemmas.List.Sums.{prefix_len-le-length}
use Rattle.word_scan.specs.declared.scanner.Kind.{Kind}
use Rattle.word_scan.specs.declared.scanner.Kind.TheVariants.{Plain, Mark, Text, Number, Name}
use Rattle.word_scan.specs.Decimals.{sign_text, fraction_text, fraction_digits, sign_at, digits_at, fraction_at}
use Rattle.word_scan.specs.Tokens.{is_mark, is_inside, text_len, name_len, closed, number_len, of_kind, token_at}
use Rattle.word_scan.specs.TokenParts.{IsNumber, IsToken, IsLongest, HasNoToken}
use Rattle.word_scan.proofs.DecimalLaws.{sign_found, digits_found, fraction_found}
use Rattle.word_scan.proofs.TokenLaws.{number_over, number_starts, token_of_number, token_of_name, token_of_text}

-- ---- a token at the front is found, or a longer one of its kind

pub record Found (kind : Kind) (front text : List ℕ) : Type 0 where
  pub len : ℕ
  pub long : length front ≤ len
  pub found : token_at text ≡ Some (kind, len)

mark_found : (b : ℕ) (rest : List ℕ) → is_mark b ≡ true → Found Mark (b ∷ []) (b ∷ rest)
unfolding token_at
mark_found b rest mark = record { len = 1; long = omega arith; found = rw mark refl }

text_found : (inside rest : List ℕ) → AllByRecursion (λ b. (b ≢ 34) × (b ≢ 10)) inside → Found Text (34 ∷ (inside ++ 34 ∷ [])) ((34 ∷ (inside ++ 34 ∷ [])) ++ rest)
text_found inside rest each =
    let same : (34 ∷ (inside ++ 34 ∷ [])) ++ rest ≡ 34 ∷ (inside ++ 34 ∷ rest) = ap (λ (t : List ℕ). 34 ∷ t) (append_assoc inside (34 ∷ []) rest) in
    record { len = length inside + 2; long = omega (arith, length-append inside (34 ∷ [])); found = ap token_at same ∙ token_of_text inside rest each }

name_found : (b : ℕ) (others rest : List ℕ) → is_ascii_alphabetic b ≡ true → AllByRecursion (λ c. is_ascii_alphanumeric c ≡ true) others → Found Name (b ∷ others) (b ∷ (others ++ rest))
name_found b others rest letter each = record { len = length others + prefix_len is_ascii_alphanumeric rest + 1; long = omega arith; found = token_of_name b others rest letter each }

number_found : (front rest : List ℕ) → IsNumber front → Found Number front (front ++ rest)
number_found front rest is =
    let tail = is.front ++ (fraction_text is.fraction ++ rest) in
    let text = sign_text is.sign ++ tail in
    let o = number_over is.sign is.front is.fraction rest is.before is.behind is.some in
    let same : front ++ rest ≡ text = ap (λ (t : List ℕ). t ++ rest) is.text ∙ append_assoc (sign_text is.sign) (is.front ++ fraction_text is.fraction) rest ∙ ap (λ (t : List ℕ). sign_text is.sign ++ t) (append_assoc is.front (fraction_text is.fraction) rest) in
    let count : length front + length rest ≡ length text = sym (length-append front rest) ∙ ap length same in
    record {
      len = length text - length o.left + 0;
      long = omega (arith, count, o.short);
      found = ap token_at same ∙ token_of_number text (number_starts is.sign is.front is.fraction rest is.before is.some) ∙ ap (of_kind Number 0) o.len;
    }

pub found_over : (kind : Kind) (front rest : List ℕ) → IsToken kind front → Found kind front (front ++ rest)
found_over Plain front rest is = absurd is
found_over Mark front rest is = subst (λ (f : List ℕ). Found Mark f (f ++ rest)) (sym is.text) (mark_found is.mark rest is.is)
found_over Text front rest is = subst (λ (f : List ℕ). Found Text f (f ++ rest)) (sym is.text) (text_found is.inside rest is.each)
found_over Number front rest is = number_found front rest is
found_over Name front rest is = subst (λ (f : List ℕ). Found Name f (f ++ rest)) (sym is.text) (name_found is.letter is.others rest is.is is.each)

-- ---- what is found is a token

pub record Stands (text : List ℕ) (kind : Kind) (len : ℕ) : Type 0 where
  pub some : 0 < len
  pub within : len ≤ length text
  pub token : IsToken kind (take len text)

some_is : {A : Type 0} (x y : A) → Some x ≡ Some y → x ≡ y
some_is x y e = cc

no_some : {A : Type 0} (x : A) → None ≡ Some x → ⊥
no_some x e = cc

abbrev a_token : Kind → ℕ → Option (Kind × ℕ)
a_token kind len = Some (kind, len)

stands_as : (text : List ℕ) (kind kind2 : Kind) (len len2 : ℕ) → a_token kind len ≡ Some (kind2, len2) → Stands text kind len → Stands text kind2 len2
stands_as text kind kind2 len len2 e stands = subst (λ (p : Kind × ℕ). Stands text p.0 p.1) (some_is (kind, len) (kind2, len2) e) stands

prefix_each : (p : ℕ → Bool) (bytes : List ℕ) → AllByRecursion (λ b. p b ≡ true) (take (prefix_len p bytes) bytes)
prefix_each p [] = tt
prefix_each p (b ∷ bytes) = by (p b) refl (prefix_each p bytes)
  where
    by : (d : Bool) → p b ≡ d → AllByRecursion (λ b. p b ≡ true) (take (prefix_len p bytes) bytes) → AllByRecursion (λ b. p b ≡ true) (take (cond d (1 + prefix_len p bytes) 0) (b ∷ bytes))
    by true e more = let k : 1 + prefix_len p bytes ≡ suc (prefix_len p bytes) = omega arith in rw k (e, more)
    by false e more = tt

inside_back : (bytes : List ℕ) → AllByRecursion (λ b. is_inside b ≡ true) bytes → AllByRecursion (λ b. (b ≢ 34) × (b ≢ 10)) bytes
inside_back [] each = tt
inside_back (b ∷ bytes) each = ((λ e. both_ways (is_inside b) (ap is_inside e) each.0, λ e. both_ways (is_inside b) (ap is_inside e) each.0), inside_back bytes each.1)

mark_stands : (b : ℕ) (bytes : List ℕ) → is_mark b ≡ true → Stands (b ∷ bytes) Mark 1
mark_stands b bytes mark = record { some = omega arith; within = omega arith; token = record { mark = b; is = mark; text = refl } }

text_stands : (b : ℕ) (bytes : List ℕ) (n : ℕ) → b ≡ 34 → closed bytes ≡ Some n → Stands (b ∷ bytes) Text (n + 2)
text_stands b bytes n quote e =
    let len = text_len bytes in
    let shut = cond_some (eqb (get_or bytes len 0) 34) len n e in
    let mark : get_or bytes len 0 ≡ 34 = eqb-true (get_or bytes len 0) 34 shut.0 in
    let inside : len < length bytes = by (ltb len (length bytes)) refl mark in
    let k : n + 2 ≡ suc (len + 1) = omega (arith, shut.1) in
    let front : take (len + 1) bytes ≡ take len bytes ++ 34 ∷ [] = take_more bytes len 0 inside ∙ ap (λ (c : ℕ). take len bytes ++ c ∷ []) mark in
    record {
      some = omega arith;
      within = omega (arith, inside, k);
      token = record {
        inside = take len bytes;
        each = inside_back (take len bytes) (prefix_each is_inside bytes);
        text = ap (λ (m : ℕ). take m (b ∷ bytes)) k ∙ ap (λ (c : ℕ). c ∷ take (len + 1) bytes) quote ∙ ap (λ (t : List ℕ). 34 ∷ t) front;
      };
    }
  where
    by : (c : Bool) → ltb (text_len bytes) (length bytes) ≡ c → get_or bytes (text_len bytes) 0 ≡ 34 → text_len bytes < length bytes
    by true t mark = ltb-true _ _ t
    by false t mark = absurd (omega (arith, mark, get_or_past bytes (text_len bytes) 0 (ltb-false _ _ t)))

name_stands : (b : ℕ) (bytes : List ℕ) → is_ascii_alphabetic b ≡ true → Stands (b ∷ bytes) Name (name_len bytes + 1)
name_stands b bytes letter =
    let n = name_len bytes in
    let k : n + 1 ≡ suc n = omega arith in
    record {
      some = omega arith;
      within = omega (arith, prefix_len-le-length is_ascii_alphanumeric bytes);
      token = record { letter = b; others = take n bytes; is = letter; each = prefix_each is_ascii_alphanumeric bytes; text = ap (λ (m : ℕ). take m (b ∷ bytes)) k };
    }

digits_of_fraction : (fraction : Option (List ℕ)) → length (fraction_digits fraction) ≤ length (fraction_text fraction)
digits_of_fraction None = omega arith
digits_of_fraction (Some ds) = omega arith

number_stands : (text : List ℕ) (n : ℕ) → number_len text ≡ Some n → Stands text Number n
number_stands text n e =
    let sign = sign_found text in
    let front = digits_found (sign_at text).1 in
    let fraction = fraction_found (digits_at (sign_at text).1).1 in
    let ds = (digits_at (sign_at text).1).0 in
    let read = fraction_at (digits_at (sign_at text).1).1 in
    let left = read.1 in
    let some = cond_some (ltb 0 (length ds + length read.0)) (length text - length left) n e in
    let count : 0 < length ds + length read.0 = ltb-true 0 (length ds + length read.0) some.0 in
    let same : length (fraction_digits fraction.fraction) ≡ length read.0 = ap length fraction.digits in
    let body = sign_text sign.0 ++ (ds ++ fraction_text fraction.fraction) in
    let whole : text ≡ body ++ left =
    sign.1 ∙ ap (λ (t : List ℕ). sign_text sign.0 ++ t) (front.0 ∙ ap (λ (t : List ℕ). ds ++ t) fraction.text ∙ sym (append_assoc ds (fraction_text fraction.fraction) left)) ∙ sym (append_assoc (sign_text sign.0) (ds ++ fraction_text fraction.fraction) left) in
    let sum : length text ≡ length body + length left = ap length whole ∙ length-append body left in
    let len : length body ≡ n = omega (arith, sum, some.1) in
    let parts : length body ≡ length (sign_text sign.0) + (length ds + length (fraction_text fraction.fraction)) = length-append (sign_text sign.0) (ds ++ fraction_text fraction.fraction) ∙ ap (λ (k : ℕ). length (sign_text sign.0) + k) (length-append ds (fraction_text fraction.fraction)) in
    record {
      some = omega (arith, parts, len, count, same, digits_of_fraction fraction.fraction);
      within = omega (arith, sum, len);
      token = record {
        sign = sign.0;
        front = ds;
        fraction = fraction.fraction;
        before = front.1;
        behind = ap all_ascii_digits fraction.digits ∙ fraction.all;
        some = omega (arith, count, same);
        text = ap (take n) whole ∙ take_at body left n len;
      };
    }

of_kind_is : (kind kind2 : Kind) (more len : ℕ) (o : Option ℕ) → of_kind kind more o ≡ Some (kind2, len) → (n : ℕ) × (o ≡ Some n) × (a_token kind (n + more) ≡ Some (kind2, len))
of_kind_is kind kind2 more len None e = absurd (no_some (kind2, len) e)
of_kind_is kind kind2 more len (Some n) e = (n, refl, e)

stands_by : (m q l : Bool) (b : ℕ) (bytes : List ℕ) (kind : Kind) (len : ℕ) → is_mark b ≡ m → eqb b 34 ≡ q → is_ascii_alphabetic b ≡ l
    → cond m (Some (Mark, 1)) (cond q (of_kind Text 2 (closed bytes)) (cond l (Some (Name, name_len bytes + 1)) (of_kind Number 0 (number_len (b ∷ bytes))))) ≡ Some (kind, len) → Stands (b ∷ bytes) kind len
stands_by true q l b bytes kind len em eq el e = stands_as (b ∷ bytes) Mark kind 1 len e (mark_stands b bytes em)
stands_by false true l b bytes kind len em eq el e = let o = of_kind_is Text kind 2 len (closed bytes) e in stands_as (b ∷ bytes) Text kind (o.0 + 2) len o.2 (text_stands b bytes o.0 (eqb-true b 34 eq) o.1)
stands_by false false true b bytes kind len em eq el e = stands_as (b ∷ bytes) Name kind (name_len bytes + 1) len e (name_stands b bytes el)
stands_by false false false b bytes kind len em eq el e =
    let o = of_kind_is Number kind 0 len (number_len (b ∷ bytes)) e in
    let k : o.0 ≡ o.0 + 0 = omega arith in
    stands_as (b ∷ bytes) Number kind (o.0 + 0) len o.2 (subst (Stands (b ∷ bytes) Number) k (number_stands (b ∷ bytes) o.0 o.1))

pub token_stands : (text : List ℕ) (kind : Kind) (len : ℕ) → token_at text ≡ Some (kind, len) → Stands text kind len
unfolding token_at
token_stands [] kind len e = absurd (no_some (kind, len) e)
token_stands (b ∷ bytes) kind len e = stands_by (is_mark b) (eqb b 34) (is_ascii_alphabetic b) b bytes kind len refl refl refl e

-- ---- the longest, and none

same_found : (text : List ℕ) (kind kind2 : Kind) (len len2 : ℕ) → token_at text ≡ Some (kind, len) → token_at text ≡ Some (kind2, len2) → (kind ≡ kind2) × (len ≡ len2)
same_found text kind kind2 len len2 a b =
    let e = some_is (kind, len) (kind2, len2) (sym a ∙ b) in
    (ap (λ (p : Kind × ℕ). p.0) e, ap (λ (p : Kind × ℕ). p.1) e)

pub longest_found : (text : List ℕ) (kind : Kind) (len : ℕ) → token_at text ≡ Some (kind, len) → IsLongest kind (take len text) (drop len text)
longest_found text kind len e =
    let s = token_stands text kind len e in
    let whole : take len text ++ drop len text ≡ text = take-append-drop len text in
    let count : length (take len text) ≡ len = omega (arith, length-take len text, s.within) in
    record {
      token = s.token;
      longest = λ other front back same is.
          let f = found_over other front back is in
          let here : token_at text ≡ Some (other, f.len) = sym (ap token_at (same ∙ whole)) ∙ f.found in
          omega (arith, (same_found text kind other len f.len e here).1, f.long, count);
      only = λ other is.
          let f = found_over other (take len text) (drop len text) is in
          let here : token_at text ≡ Some (other, f.len) = sym (ap token_at whole) ∙ f.found in
          sym (same_found text kind other len f.len e here).0;
    }

pub found_longest : (kind : Kind) (bytes more : List ℕ) → IsLongest kind bytes more → token_at (bytes ++ more) ≡ Some (kind, length bytes)
found_longest kind bytes more is =
    let text = bytes ++ more in
    let f = found_over kind bytes more is.token in
    let s = token_stands text kind f.len f.found in
    let count : length (take f.len text) ≡ f.len = omega (arith, length-take f.len text, s.within) in
    let short : length (take f.len text) ≤ length bytes = is.longest kind (take f.len text) (drop f.len text) (take-append-drop f.len text) s.token in
    let same : f.len ≡ length bytes = omega (arith, count, short, f.long) in
    f.found ∙ ap (λ (n : ℕ). Some (kind, n)) same

pub none_found : (text : List ℕ) → token_at text ≡ None → HasNoToken text
none_found text none kind front back same is =
    let f = found_over kind front back is in
    no_some (kind, f.len) (sym none ∙ sym (ap token_at same) ∙ f.found)

pub found_none : (text : List ℕ) → HasNoToken text → token_at text ≡ None
found_none text none = by (token_at text) refl
  where
    by : (o : Option (Kind × ℕ)) → token_at text ≡ o → token_at text ≡ None
    by None e = e
    by (Some p) e = let s = token_stands text p.0 p.1 e in absurd (none p.0 (take p.1 text) (drop p.1 text) (take-append-drop p.1 text) s.token)
