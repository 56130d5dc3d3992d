-- Texts one after another.
use Rattle.std.proofs.Common.{◌≡◌, List, [], ◌∷◌, ◌++◌, ℕ, true, false, unsigned_abs, refl, sym, ap, ◌∙◌, append_assoc}
use Rattle.std.proofs.lemmas.Bool.{cond-true, cond-false}
use Rattle.std.specs.Fmt.{decimal}
use Rattle.word_scan.specs.declared.decimals.Dec.{Dec}
use Rattle.word_scan.specs.Decimals.{DecimalParts, sign_of, sign_text, spelling}
use Rattle.std.specs.List.{flat_map}
use Rattle.in2d_reader.specs.Words.{Word}
use Rattle.in2d_reader.specs.Normal.{spaced, line_text, filled, plain_parts, plain_text, power_parts, is_plain, decimal_text}

pub flat_map_both : {X A : Type 0} (f : X → List A) (xs ys : List X) → flat_map f (xs ++ ys) ≡ flat_map f xs ++ flat_map f ys
flat_map_both f [] ys = refl
flat_map_both f (x ∷ xs) ys = ap (λ (t : List _). f x ++ t) (flat_map_both f xs ys) ∙ sym (append_assoc (f x) (flat_map f xs) (flat_map f ys))

pub spaced_both : (xs ys : List Word) → spaced (xs ++ ys) ≡ spaced xs ++ spaced ys
spaced_both xs ys = flat_map_both (λ word. 32 ∷ word) xs ys

pub texts_of_lines : (xs ys : List (List Word)) → flat_map line_text (xs ++ ys) ≡ flat_map line_text xs ++ flat_map line_text ys
texts_of_lines xs ys = flat_map_both line_text xs ys

-- a decimal is printed plainly, or with a power of ten
pub decimal_plain : (d : Dec) → is_plain d.scale ≡ true → decimal_text d ≡ sign_text (sign_of d.digits) ++ plain_text (filled (unsigned_abs d.scale) (decimal (unsigned_abs d.digits))) (unsigned_abs d.scale)
unfolding decimal_text
decimal_plain d plain = ap (λ (parts : DecimalParts). spelling parts) (cond-true (is_plain d.scale) (plain_parts (sign_of d.digits) (filled (unsigned_abs d.scale) (decimal (unsigned_abs d.digits))) (unsigned_abs d.scale)) (power_parts (sign_of d.digits) (decimal (unsigned_abs d.digits)) d.scale) plain)

pub decimal_power : (d : Dec) → is_plain d.scale ≡ false → decimal_text d ≡ sign_text (sign_of d.digits) ++ (decimal (unsigned_abs d.digits) ++ (101 ∷ (sign_text (sign_of d.scale) ++ decimal (unsigned_abs d.scale))))
unfolding decimal_text
decimal_power d plain = ap (λ (parts : DecimalParts). spelling parts) (cond-false (is_plain d.scale) (plain_parts (sign_of d.digits) (filled (unsigned_abs d.scale) (decimal (unsigned_abs d.digits))) (unsigned_abs d.scale)) (power_parts (sign_of d.digits) (decimal (unsigned_abs d.digits)) d.scale) plain)

-- the two ways of printing a decimal, part by part
pub put_plain_is : (d : Dec) (old signed new digits : List ℕ) (m places : ℕ) → is_plain d.scale ≡ true → signed ≡ old ++ sign_text (sign_of d.digits) → digits ≡ decimal m → m ≡ unsigned_abs d.digits → places ≡ unsigned_abs d.scale
    → new ≡ signed ++ plain_text (filled places digits) places → new ≡ old ++ decimal_text d
put_plain_is d old signed new digits m places plain s ds e p n =
    let same : digits ≡ decimal (unsigned_abs d.digits) = ds ∙ ap decimal e in
    let text : plain_text (filled places digits) places ≡ plain_text (filled (unsigned_abs d.scale) (decimal (unsigned_abs d.digits))) (unsigned_abs d.scale) =
    ap (λ (t : List ℕ). plain_text (filled places t) places) same ∙ ap (λ (k : ℕ). plain_text (filled k (decimal (unsigned_abs d.digits))) k) p in
    n ∙ ap (λ (t : List ℕ). t ++ plain_text (filled places digits) places) s ∙ append_assoc old (sign_text (sign_of d.digits)) (plain_text (filled places digits) places)
    ∙ ap (λ (t : List ℕ). old ++ (sign_text (sign_of d.digits) ++ t)) text ∙ ap (λ (t : List ℕ). old ++ t) (sym (decimal_plain d plain))

pub put_power_is : (d : Dec) (old signed numbered new digits : List ℕ) (m : ℕ) → is_plain d.scale ≡ false → signed ≡ old ++ sign_text (sign_of d.digits) → digits ≡ decimal m → m ≡ unsigned_abs d.digits → numbered ≡ signed ++ digits
    → new ≡ numbered ++ (101 ∷ (sign_text (sign_of d.scale) ++ decimal (unsigned_abs d.scale))) → new ≡ old ++ decimal_text d
put_power_is d old signed numbered new digits m plain s ds e number n =
    let power = 101 ∷ (sign_text (sign_of d.scale) ++ decimal (unsigned_abs d.scale)) in
    let same : digits ≡ decimal (unsigned_abs d.digits) = ds ∙ ap decimal e in
    n ∙ ap (λ (t : List ℕ). t ++ power) (number ∙ ap (λ (t : List ℕ). t ++ digits) s) ∙ append_assoc (old ++ sign_text (sign_of d.digits)) digits power ∙ append_assoc old (sign_text (sign_of d.digits)) (digits ++ power)
    ∙ ap (λ (t : List ℕ). old ++ (sign_text (sign_of d.digits) ++ (t ++ power))) same ∙ ap (λ (t : List ℕ). old ++ t) (sym (decimal_power d plain))
