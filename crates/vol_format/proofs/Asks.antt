-- What a word gives where something is needed is what it says.
use Rattle.std.proofs.Common.{◌≡◌, ℕ, zero, suc, ◌*◌, ◌/◌, ◌%◌, ◌<◌, ◌≤◌, Bool, true, false, ◌&&◌, ◌==◌, Option, Some, None, option_map, refl, sym, ap, subst, ◌∙◌, arith}
use Rattle.std.specs.Prelude.{ℤ, pos, negsuc, ◌+ℤ◌, ◌*ℤ◌, neg_ℤ, unsigned_abs, nat_le}
use Rattle.std.specs.Int.{is_negative}
use Rattle.std.specs.Str.{bytes_eq}
use Rattle.std.proofs.lemmas.Slice.Eq.{bytes_eq-Decides}
use Rattle.std.proofs.lemmas.Option.{cond_some}
use Rattle.std.proofs.lemmas.Bool.{le-leb, leb-true, and_parts, eqb-true}
use Rattle.std.proofs.lemmas.Int.{ints, unsigned_abs-mul}
use Rattle.std.proofs.Math.Dec.{leb-suc-zero}
use Rattle.std.proofs.Math.IntN.{negsuc-*ℤ-pos, pos-*ℤ-pos}
use Rattle.std.proofs.Math.Nat.{mul-mod_left, mul-div_cancel, one-le-pow, mod-eq-sub-mul-div, mul-div-le}
use Rattle.word_scan.specs.declared.decimals.Dec.{Dec}
use Rattle.word_scan.specs.Numerals.{IsWhole, value_of, is_whole, whole_of}
use Rattle.word_scan.specs.Decimals.{decimal_of, signed}
use Rattle.word_scan.proofs.DecimalLaws.{size_of_signed}
use Rattle.vol_format.specs.declared.refusal.TheConstants.{MOST_ROWS}
use Rattle.vol_format.specs.Text.{Word, Item, Fixed, Number, Coordinate, Count, PointNumber, plain, tens, IsPlace, Says}
use Rattle.vol_format.specs.Reading.{Need, NeedWord, NeedNumber, NeedPoint, NeedCount, NeedPlace, Given, got, from_least, divided, steps_of, place_of, place_in}
use Rattle.vol_format.proofs.Words.{told_whole, whole_told}

-- what a word says that gives this where it is needed
abbrev pub item_of : (need : Need) → Given need → Item
item_of (NeedWord text) v = Fixed text
item_of (NeedNumber least greatest) n = plain n
item_of NeedPoint n = Number PointNumber n
item_of NeedCount n = Number Count n
item_of (NeedPlace greatest) x = Coordinate x

abbrev pub InNeed : (need : Need) → Given need → Type 0
InNeed (NeedWord text) v = Unit {0}
InNeed (NeedNumber least greatest) n = (least ≤ n) × (n ≤ greatest)
InNeed NeedPoint n = n ≤ MOST_ROWS
InNeed NeedCount n = n ≤ MOST_ROWS
InNeed (NeedPlace greatest) x = unsigned_abs x ≤ greatest

-- ---- whole numbers

whole_says : (word : Word) (greatest n : ℕ) → whole_of word greatest ≡ Some n → (IsWhole word × (value_of word ≡ n)) × (n ≤ greatest)
whole_says word greatest n e =
    let c = cond_some (is_whole word && nat_le (value_of word) greatest) (value_of word) n e in
    let p = and_parts (is_whole word) (nat_le (value_of word) greatest) c.0 in
    let le = leb-true (value_of word) greatest p.1 in
    ((told_whole word p.0, c.1), omega (arith, le, c.1))

pub says_whole : (word : Word) (greatest n : ℕ) → IsWhole word → value_of word ≡ n → n ≤ greatest → whole_of word greatest ≡ Some n
says_whole word greatest n is same le = rw (whole_told word is, same, le-leb n greatest le) refl

least_says : (least n : ℕ) (o : Option ℕ) → from_least least o ≡ Some n → (o ≡ Some n) × (least ≤ n)
least_says least n None e = absurd cc
least_says least n (Some m) e =
    let c = cond_some (nat_le least m) m n e in
    (ap (λ (x : ℕ). Some x) c.1, omega (arith, leb-true least m c.0, c.1))

-- ---- coordinates

not_negative : (n : ℕ) → is_negative (pos n) ≡ false
not_negative n = leb-suc-zero n

signed_times : (z : ℤ) (t : ℕ) → z *ℤ pos t ≡ signed (is_negative z) (unsigned_abs z * t)
signed_times (pos n) t = rw not_negative (pos-*ℤ-pos n t)
signed_times (negsuc n) t = negsuc-*ℤ-pos n t

signed_split : (minus : Bool) (n t : ℕ) → signed minus (n * t) ≡ signed minus n *ℤ pos t
signed_split false n t = sym (pos-*ℤ-pos n t)
signed_split true zero t = let none : zero * t ≡ zero = omega arith in rw none refl
signed_split true (suc n) t = sym (negsuc-*ℤ-pos n t)

pub tens_some : (z : ℤ) → 0 < tens z
tens_some (pos n) = omega (arith, one-le-pow n 10 (omega arith))
tens_some (negsuc n) = omega arith

divided_says : (greatest up down q : ℕ) → divided greatest up down ≡ Some q → (up ≡ q * down) × (q ≤ greatest)
divided_says greatest up down q e =
    let c = cond_some ((up % down) == 0 && nat_le (up / down) greatest) (up / down) q e in
    let p = and_parts ((up % down) == 0) (nat_le (up / down) greatest) c.0 in
    let none : up % down ≡ 0 = eqb-true (up % down) 0 p.0 in
    let whole : down * (up / down) ≡ up = omega (arith, mod-eq-sub-mul-div up down, mul-div-le up down, none) in
    (sym whole ∙ ap (λ (n : ℕ). down * n) c.1 ∙ omega arith, omega (arith, leb-true (up / down) greatest p.1, c.1))

says_divided : (greatest up down q : ℕ) → 0 < down → up ≡ q * down → q ≤ greatest → divided greatest up down ≡ Some q
says_divided greatest up down q some same le = rw (same, mul-mod_left q down, mul-div_cancel q some, le-leb q greatest le) refl

place_by : (k greatest : ℕ) (d : Dec) (x : ℤ) (o : Option ℕ) → steps_of k greatest d ≡ o → option_map (signed (is_negative d.digits)) o ≡ Some x → IsPlace k d x × (unsigned_abs x ≤ greatest)
place_by k greatest d x None is h = absurd cc
place_by k greatest d x (Some q) is h =
    let z = d.scale +ℤ pos k in
    let down = 15625 * tens (neg_ℤ z) in
    let minus = is_negative d.digits in
    let same : signed minus q ≡ x = cc in
    let s = divided_says greatest (unsigned_abs d.digits * tens z) down q is in
    (signed_times d.digits (tens z) ∙ ap (signed minus) s.0 ∙ signed_split minus q down ∙ ap (λ (y : ℤ). y *ℤ pos down) same, subst (λ (y : ℤ). unsigned_abs y ≤ greatest) same (rw size_of_signed s.1))

place_says : (k greatest : ℕ) (d : Dec) (x : ℤ) → place_of k greatest d ≡ Some x → IsPlace k d x × (unsigned_abs x ≤ greatest)
place_says k greatest d x e = place_by k greatest d x (steps_of k greatest d) refl e

-- the sign of a product with a positive number is that of the other factor
same_sign : (a b : ℤ) (t u : ℕ) → 0 < t → 0 < u → a *ℤ pos t ≡ b *ℤ pos u → signed (is_negative a) (unsigned_abs b) ≡ b
same_sign (pos m) (pos n) t u p q e = rw not_negative refl
same_sign (negsuc m) (negsuc n) t u p q e = refl
same_sign (pos m) (negsuc n) t (suc u) p q e =
    let both : pos (m * t) ≡ neg_ℤ (pos (suc n * suc u)) = sym (pos-*ℤ-pos m t) ∙ e ∙ negsuc-*ℤ-pos n (suc u) in
    let some : 0 < suc n * suc u = omega arith in
    absurd (omega (arith, ints, both, some))
same_sign (pos m) (negsuc n) t zero p q e = absurd (omega (arith, q))
same_sign (negsuc m) (pos zero) t u p q e = refl
same_sign (negsuc m) (pos (suc n)) (suc t) u p q e =
    let both : neg_ℤ (pos (suc m * suc t)) ≡ pos (suc n * u) = sym (negsuc-*ℤ-pos m (suc t)) ∙ e ∙ pos-*ℤ-pos (suc n) u in
    let some : 0 < suc m * suc t = omega arith in
    absurd (omega (arith, ints, both, some))
same_sign (negsuc m) (pos (suc n)) zero u p q e = absurd (omega (arith, p))

says_place : (k greatest : ℕ) (d : Dec) (x : ℤ) → IsPlace k d x → unsigned_abs x ≤ greatest → place_of k greatest d ≡ Some x
says_place k greatest d x is le =
    let z = d.scale +ℤ pos k in
    let down = 15625 * tens (neg_ℤ z) in
    let some : 0 < down = omega (arith, tens_some (neg_ℤ z)) in
    let sizes : unsigned_abs d.digits * tens z ≡ unsigned_abs x * down = sym (unsigned_abs-mul d.digits (pos (tens z))) ∙ ap unsigned_abs is ∙ unsigned_abs-mul x (pos down) in
    ap (option_map (signed (is_negative d.digits))) (says_divided greatest (unsigned_abs d.digits * tens z) down (unsigned_abs x) some sizes le)
    ∙ ap (λ (y : ℤ). Some y) (same_sign d.digits x (tens z) down (tens_some z) some is)

place_in_says : (k greatest : ℕ) (o : Option Dec) (x : ℤ) → place_in k greatest o ≡ Some x → ((d : Dec) × (o ≡ Some d) × IsPlace k d x) × (unsigned_abs x ≤ greatest)
place_in_says k greatest None x e = absurd cc
place_in_says k greatest (Some d) x e = let p = place_says k greatest d x e in ((d, refl, p.0), p.1)

-- ---- a need

pub got_says : (k : ℕ) (need : Need) (word : Word) (v : Given need) → got k need word ≡ Some v → Says k word (item_of need v) × InNeed need v
got_says k (NeedWord text) word v e = ((bytes_eq-Decides word text).0 (cond_some (bytes_eq word text) tt v e).0, tt)
got_says k (NeedNumber least greatest) word n e =
    let l = least_says least n (whole_of word greatest) e in
    let w = whole_says word greatest n l.0 in
    (w.0, (l.1, w.1))
got_says k NeedPoint word n e = whole_says word MOST_ROWS n e
got_says k NeedCount word n e = whole_says word MOST_ROWS n e
got_says k (NeedPlace greatest) word x e = place_in_says k greatest (decimal_of word) x e

pub says_got : (k : ℕ) (need : Need) (word : Word) (v : Given need) → Says k word (item_of need v) → InNeed need v → got k need word ≡ Some v
says_got k (NeedWord text) word v says in_need = rw ((bytes_eq-Decides word text).1 says) refl
says_got k (NeedNumber least greatest) word n says in_need = rw (says_whole word greatest n says.0 says.1 in_need.1, le-leb least n in_need.0) refl
says_got k NeedPoint word n says in_need = says_whole word MOST_ROWS n says.0 says.1 in_need
says_got k NeedCount word n says in_need = says_whole word MOST_ROWS n says.0 says.1 in_need
says_got k (NeedPlace greatest) word x says in_need = ap (place_in k greatest) says.1 ∙ says_place k greatest says.0 x says.2 in_need
