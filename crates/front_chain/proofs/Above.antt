-- The least line above a number, in the table by line numbers, and whether a line leaves a point.
use Prim.Native.Nat.{ℕ, zero, suc, ◌+◌, ◌-◌, ◌≤◌, ◌<◌}
use lib.ListN.{length, get_or}
use mathlib.Core.Path.{◌≡◌, refl, sym, ap, ◌∙◌, subst}
use mathlib.Core.Bool.{Bool, true, false, cond, ◌||◌}
use mathlib.Core.List.{List, [], ◌∷◌}
use mathlib.Core.Logic.{◌⊎◌, inl, inr}
use native.Mathlib.Omega.{arith}
use Rattle.std.specs.Prelude.{nat_eq, nat_lt, is_some, Option, Some, None}
use Rattle.std.specs.Option.{option_map}
use Rattle.std.specs.List.{find, list_any}
use Rattle.grid_geom.specs.declared.Point.{Point}
use Rattle.front_chain.specs.declared.side.Side.{Side}
use Rattle.front_chain.specs.Front.{number_above}
use Rattle.front_chain.specs.Tables.{side_at, lines_from, leaving_of, is_positive, AreTables}
use Rattle.front_chain.proofs.Lines.{no_side, past_end}

not_above : (after n : ℕ) → n ≤ after → nat_lt after n ≡ false
not_above after n h = grind arith

is_above : (after n : ℕ) → after < n → nat_lt after n ≡ true
is_above after n h = grind arith

-- no line above
pub none_above : (n after : ℕ) (made : List (Option Side)) → ((j : ℕ) → after < n + j → side_at made j ≡ None) → number_above (lines_from n made) after ≡ None
none_above n after [] h = refl
none_above n after (None ∷ made) h = none_above (n + 1) after made (λ j l. h (suc j) (later n j l))
  where
    later : (n j : ℕ) → after < (n + 1) + j → after < n + suc j
    later n j l = omega arith
none_above n after (Some s ∷ made) h = ap (λ b. option_map (λ (line : ℕ × ℕ × ℕ). line.0) (cond b (Some (n, s.from, s.to)) (find (λ line. nat_lt after line.0) (lines_from (n + 1) made)))) (by (nat_lt after n) refl)
    ∙ none_above (n + 1) after made (λ j l. h (suc j) (later n j l))
  where
    later : (n j : ℕ) → after < (n + 1) + j → after < n + suc j
    later n j l = omega arith

    at : (n : ℕ) → nat_lt after n ≡ true → after < n + 0
    at n e = grind arith

    by : (b : Bool) → nat_lt after n ≡ b → b ≡ false
    by true e = no_side s (sym (h zero (at n e)))
    by false e = refl

-- the first place past `after` that has a line
pub first_above : (n after i : ℕ) (made : List (Option Side)) (s : Side) → after < n + i → side_at made i ≡ Some s → ((j : ℕ) → j < i → after < n + j → side_at made j ≡ None) → number_above (lines_from n made) after ≡ Some (n + i)
first_above n after i [] s l e h = no_side s e
first_above n after zero (None ∷ made) s l e h = no_side s e
first_above n after zero (Some t ∷ made) s l e h = ap (λ b. option_map (λ (line : ℕ × ℕ × ℕ). line.0) (cond b (Some (n, t.from, t.to)) (find (λ line. nat_lt after line.0) (lines_from (n + 1) made)))) (is_above after n (plain n l)) ∙ ap Some (same n)
  where
    plain : (n : ℕ) → after < n + 0 → after < n
    plain n l = omega arith

    same : (n : ℕ) → n ≡ n + 0
    same n = omega arith
first_above n after (suc i) (None ∷ made) s l e h = first_above (n + 1) after i made s (earlier n i l) e (λ j k m. h (suc j) (omega (arith, k)) (later n j m)) ∙ ap Some (moved n i)
  where
    earlier : (n i : ℕ) → after < n + suc i → after < (n + 1) + i
    earlier n i l = omega arith

    later : (n j : ℕ) → after < (n + 1) + j → after < n + suc j
    later n j l = omega arith

    moved : (n i : ℕ) → (n + 1) + i ≡ n + suc i
    moved n i = omega arith
first_above n after (suc i) (Some t ∷ made) s l e h = ap (λ b. option_map (λ (line : ℕ × ℕ × ℕ). line.0) (cond b (Some (n, t.from, t.to)) (find (λ line. nat_lt after line.0) (lines_from (n + 1) made)))) (by (nat_lt after n) refl)
    ∙ first_above (n + 1) after i made s (earlier n i l) e (λ j k m. h (suc j) (omega (arith, k)) (later n j m)) ∙ ap Some (moved n i)
  where
    earlier : (n i : ℕ) → after < n + suc i → after < (n + 1) + i
    earlier n i l = omega arith

    later : (n j : ℕ) → after < (n + 1) + j → after < n + suc j
    later n j l = omega arith

    moved : (n i : ℕ) → (n + 1) + i ≡ n + suc i
    moved n i = omega arith

    at : (n : ℕ) → nat_lt after n ≡ true → after < n + 0
    at n e = grind arith

    by : (b : Bool) → nat_lt after n ≡ b → b ≡ false
    by true e = no_side t (sym (h zero (omega arith) (at n e)))
    by false e = refl

-- for the table whose first place is number 1: no place from `after` to i has a line
abbrev pub AreGone : List (Option Side) → ℕ → ℕ → Type 0
AreGone made after i = (j : ℕ) → after ≤ j → j < i → side_at made j ≡ None

pub gone_above : (made : List (Option Side)) (after i : ℕ) → length made ≤ i → AreGone made after i → number_above (lines_from 1 made) after ≡ None
gone_above made after i h g = none_above 1 after made (λ j l. elim (compared j i) [ inl k ↦ g j (omega (arith, l)) k | inr k ↦ past_end made j (omega (arith, h, k)) ])
  where
    compared : (j i : ℕ) → (j < i) ⊎ (i ≤ j)
    compared j i = grind arith

pub found_above : (made : List (Option Side)) (after i : ℕ) (s : Side) → after ≤ i → side_at made i ≡ Some s → AreGone made after i → number_above (lines_from 1 made) after ≡ Some (i + 1)
found_above made after i s l e g = first_above 1 after i made s (omega arith) e (λ j k m. g j (omega (arith, m)) k) ∙ ap Some (turned i)
  where
    turned : (i : ℕ) → 1 + i ≡ i + 1
    turned i = omega arith

-- ---- whether a line leaves a point
pub leaving_any : (lines : List (ℕ × ℕ × ℕ)) (n : ℕ) → nat_lt 0 (leaving_of lines n) ≡ list_any (λ line. nat_eq line.1 n) lines
leaving_any [] n = refl
leaving_any (line ∷ lines) n = by (nat_eq line.1 n) (leaving_any lines n)
  where
    by : (b : Bool) → nat_lt 0 (leaving_of lines n) ≡ list_any (λ line. nat_eq line.1 n) lines → nat_lt 0 (cond b 1 0 + leaving_of lines n) ≡ (b || list_any (λ line. nat_eq line.1 n) lines)
    by true e = positive (leaving_of lines n)
      where
        positive : (k : ℕ) → nat_lt 0 (1 + k) ≡ true
        positive k = grind arith
    by false e = ap (nat_lt 0) (plain (leaving_of lines n)) ∙ e
      where
        plain : (k : ℕ) → 0 + k ≡ k
        plain k = omega arith

pub leaves_is : {points : List Point} {leaving : List ℕ} {made : List (Option Side)} {number : Side → Option ℕ} → AreTables points leaving made number → (n : ℕ) → 1 ≤ n → n ≤ length leaving →
    nat_lt 0 (get_or leaving (n - 1) 0) ≡ list_any (λ line. nat_eq line.1 n) (lines_from 1 made)
leaves_is {points} {leaving} {made} h n l k = ap (nat_lt 0) (h.counted (n - 1) (inside n (length points) l (subst (λ (m : ℕ). n ≤ m) h.as_many k)) ∙ ap (leaving_of (lines_from 1 made)) (back n l)) ∙ leaving_any (lines_from 1 made) n
  where
    inside : (n m : ℕ) → 1 ≤ n → n ≤ m → n - 1 < m
    inside n m l k = omega arith

    back : (n : ℕ) → 1 ≤ n → (n - 1) + 1 ≡ n
    back n l = omega arith

-- none leaves a number that isn't listed
none_from : (m n : ℕ) (made : List (Option Side)) → ((i : ℕ) (s : Side) → side_at made i ≡ Some s → s.from ≡ n → ⊥) → list_any (λ line. nat_eq line.1 n) (lines_from m made) ≡ false
none_from m n [] h = refl
none_from m n (None ∷ made) h = none_from (m + 1) n made (λ i s e. h (suc i) s e)
none_from m n (Some s ∷ made) h = ap (λ b. b || list_any (λ line. nat_eq line.1 n) (lines_from (m + 1) made)) (other s.from n (h zero s refl)) ∙ none_from (m + 1) n made (λ i s e. h (suc i) s e)
  where
    other : (a n : ℕ) → (a ≡ n → ⊥) → nat_eq a n ≡ false
    other a n h = grind arith

pub unlisted_leaves : {points : List Point} {leaving : List ℕ} {made : List (Option Side)} {number : Side → Option ℕ} → AreTables points leaving made number → (n : ℕ) → (n ≡ 0) ⊎ (length leaving < n) → list_any (λ line. nat_eq line.1 n) (lines_from 1 made) ≡ false
unlisted_leaves {points} {leaving} {made} h n (inl z) = none_from 1 n made (λ i s e f. none s.from n (h.joined i s e).0.0 z f)
  where
    none : (a n : ℕ) → 1 ≤ a → n ≡ 0 → a ≡ n → ⊥
    none a n l z f = omega arith
unlisted_leaves {points} {leaving} {made} h n (inr z) = none_from 1 n made (λ i s e f. none s.from n (length points) (length leaving) (h.joined i s e).0.1 h.as_many z f)
  where
    none : (a n p l : ℕ) → a ≤ p → l ≡ p → l < n → a ≡ n → ⊥
    none a n p l h e z f = omega arith

pub found_some : (made : List (Option Side)) (after i : ℕ) → after ≤ i → is_some (side_at made i) ≡ true → AreGone made after i → number_above (lines_from 1 made) after ≡ Some (i + 1)
found_some made after i l e g = by (side_at made i) refl e
  where
    by : (o : Option Side) → side_at made i ≡ o → is_some o ≡ true → number_above (lines_from 1 made) after ≡ Some (i + 1)
    by None f h = absurd (cc)
    by (Some s) f h = found_above made after i s l f g

-- a positive count is that of a point that some line leaves
pub positive_leaves : {points : List Point} {leaving : List ℕ} {made : List (Option Side)} {number : Side → Option ℕ} → AreTables points leaving made number → (n : ℕ) → is_positive leaving n ≡ list_any (λ line. nat_eq line.1 n) (lines_from 1 made)
positive_leaves h zero = sym (unlisted_leaves h 0 (inl refl))
positive_leaves {points} {leaving} {made} h (suc i) = by (compared i (length leaving))
  where
    compared : (i n : ℕ) → (i < n) ⊎ (n ≤ i)
    compared i n = grind arith

    past : (ks : List ℕ) (i : ℕ) → length ks ≤ i → nat_lt 0 (get_or ks i 0) ≡ false
    past [] i l = refl
    past (k ∷ ks) zero l = absurd (omega (arith, l))
    past (k ∷ ks) (suc i) l = past ks i (omega (arith, l))

    less : (i : ℕ) → suc i - 1 ≡ i
    less i = omega arith

    by : (i < length leaving) ⊎ (length leaving ≤ i) → nat_lt 0 (get_or leaving i 0) ≡ list_any (λ line. nat_eq line.1 (suc i)) (lines_from 1 made)
    by (inl l) = ap (λ (m : ℕ). nat_lt 0 (get_or leaving m 0)) (sym (less i)) ∙ leaves_is h (suc i) (omega arith) (omega (arith, l))
    by (inr l) = past leaving i l ∙ sym (unlisted_leaves h (suc i) (inr (omega (arith, l))))
