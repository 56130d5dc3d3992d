-- The tables agree after a line has joined and after one has left. Stands on Lines.
use Prim.Native.Nat.{ℕ, zero, suc, ◌+◌, ◌-◌, ◌≤◌, ◌<◌}
use lib.ListN.{length, get_or, set}
use mathlib.Core.Path.{◌≡◌, refl, sym, ap, ◌∙◌, subst}
use mathlib.Core.Bool.{Bool, true, false, cond}
use mathlib.Core.List.{List, [], ◌∷◌, ◌++◌}
use mathlib.Core.Logic.{◌≢◌, ◌⊎◌, inl, inr}
use native.Mathlib.Omega.{arith}
use Rattle.std.specs.Prelude.{nat_eq, Option, Some, None}
use Rattle.std.proofs.lemmas.List.{get_or-set_same, get_or-set_other, length-set, length-append, get_or_append_left}
use Rattle.std.specs.Map.{lookup}
use Rattle.grid_geom.specs.declared.Point.{Point}
use Rattle.state_law.specs.State.{IsListed, glue_line}
use Rattle.front_chain.specs.declared.side.Side.{Side}
use Rattle.front_chain.specs.Front.{number_between}
use Rattle.front_chain.specs.Tables.{side_at, lines_from, leaving_of, AreTables}
use Rattle.front_chain.proofs.Lines.{same_side, same_self, same_sound, eq_self, IsNowhere, IsFirstAt, number_absent, number_present, lines_push, leaving_more, leaving_less, glue_present}

-- ---- places of the table after a push and after a line has left
push_place : (made : List (Option Side)) (t s : Side) (i : ℕ) → side_at (made ++ Some t ∷ []) i ≡ Some s → (side_at made i ≡ Some s) ⊎ ((i ≡ length made) × (t ≡ s))
push_place [] t s zero e = inr (refl, cc)
push_place [] t s (suc i) e = inl e
push_place (m ∷ made) t s zero e = inl e
push_place (m ∷ made) t s (suc i) e = elim (push_place made t s i e) [ inl h ↦ inl h | inr h ↦ inr (ap suc h.0, h.1) ]

push_old : (made : List (Option Side)) (t s : Side) (i : ℕ) → side_at made i ≡ Some s → side_at (made ++ Some t ∷ []) i ≡ Some s
push_old [] t s i e = absurd (cc)
push_old (m ∷ made) t s zero e = e
push_old (m ∷ made) t s (suc i) e = push_old made t s i e

pub push_new : (made : List (Option Side)) (t : Side) → side_at (made ++ Some t ∷ []) (length made) ≡ Some t
push_new [] t = refl
push_new (m ∷ made) t = push_new made t

left_place : (made : List (Option Side)) (i j : ℕ) (s : Side) → side_at (set made i None) j ≡ Some s → (j ≢ i) × (side_at made j ≡ Some s)
left_place [] i j s e = absurd (cc)
left_place (m ∷ made) zero zero s e = absurd (cc)
left_place (m ∷ made) zero (suc j) s e = (λ h. absurd (omega (arith, h)), e)
left_place (m ∷ made) (suc i) zero s e = (λ h. absurd (omega (arith, h)), e)
left_place (m ∷ made) (suc i) (suc j) s e = let k = left_place made i j s e in (λ h. k.0 (omega (arith, h)), k.1)

-- ---- what `number` says of the list of lines
no_number : {A : Type 0} (n : ℕ) → None ≡ Some n → A
no_number n e = absurd (cc)

one_number : (m n : ℕ) → Some m ≡ Some n → m ≡ n
one_number m n e = cc

nowhere : {points : List Point} {leaving : List ℕ} {made : List (Option Side)} {number : Side → Option ℕ} → AreTables points leaving made number → (s : Side) → number s ≡ None → IsNowhere made s
nowhere h s e i k = no_number (i + 1) (sym e ∙ h.found i s k)

first_at : {points : List Point} {leaving : List ℕ} {made : List (Option Side)} {number : Side → Option ℕ} → AreTables points leaving made number → (s : Side) (n : ℕ) → number s ≡ Some n → IsFirstAt made s (n - 1)
first_at h s n e = record {
  here = (h.kept s n e).1;
  not_before = λ j l k. other j n l (one_number n (j + 1) (sym e ∙ h.found j s k));
}
  where
    other : (j n : ℕ) → j < n - 1 → n ≡ j + 1 → ⊥
    other j n l e = omega arith

-- the number of a line by its ends is what the table by ends says
pub number_tabled : {points : List Point} {leaving : List ℕ} {made : List (Option Side)} {number : Side → Option ℕ} → AreTables points leaving made number → (s : Side) → number_between (lines_from 1 made) s.from s.to ≡ number s
number_tabled {points} {leaving} {made} {number} h s = by (number s) refl
  where
    back : (n : ℕ) → 1 ≤ n → 1 + (n - 1) ≡ n
    back n l = omega arith

    by : (o : Option ℕ) → number s ≡ o → number_between (lines_from 1 made) s.from s.to ≡ number s
    by None e = number_absent 1 made s (nowhere h s e) ∙ sym e
    by (Some n) e = number_present 1 (n - 1) made s (first_at h s n e) ∙ ap Some (back n (h.kept s n e).0) ∙ sym e

-- ---- counts
cond_other : (a k : ℕ) → (a ≡ k → ⊥) → ◌≡◌ {A = ℕ} (cond (nat_eq a k) 1 0) 0
cond_other a k h = grind arith

cond_same : (a : ℕ) → ◌≡◌ {A = ℕ} (cond (nat_eq a a) 1 0) 1
cond_same a = ap (λ b. cond {A = ℕ} b 1 0) (eq_self a)

-- one more leaves the point with number a
count_more : (leaving : List ℕ) (lines : List (ℕ × ℕ × ℕ)) (m a b : ℕ) → 1 ≤ a → a ≤ length leaving → ((i : ℕ) → i < length leaving → get_or leaving i 0 ≡ leaving_of lines (i + 1)) →
    (i : ℕ) → i < length leaving → get_or (set leaving (a - 1) (get_or leaving (a - 1) 0 + 1)) i 0 ≡ leaving_of (lines ++ (m, a, b) ∷ []) (i + 1)
count_more leaving lines m a b l k h i j = by (nat_eq i (a - 1)) refl
  where
    inside : (a n : ℕ) → 1 ≤ a → a ≤ n → a - 1 < n
    inside a n l k = omega arith

    other : (i a : ℕ) → 1 ≤ a → nat_eq i (a - 1) ≡ false → a ≡ i + 1 → ⊥
    other i a l e h = grind arith

    at : (i a : ℕ) → nat_eq i (a - 1) ≡ true → i ≡ a - 1
    at i a e = grind arith

    its : (a : ℕ) → 1 ≤ a → (a - 1) + 1 ≡ a
    its a l = omega arith

    plain : (n : ℕ) → n + 0 ≡ n
    plain n = omega arith

    not_at : (i k : ℕ) → nat_eq i k ≡ false → i ≢ k
    not_at i k e h = grind arith

    by : (c : Bool) → nat_eq i (a - 1) ≡ c → get_or (set leaving (a - 1) (get_or leaving (a - 1) 0 + 1)) i 0 ≡ leaving_of (lines ++ (m, a, b) ∷ []) (i + 1)
    by true e = ap (λ (n : ℕ). get_or (set leaving (a - 1) (get_or leaving (a - 1) 0 + 1)) n 0) (at i a e)
        ∙ get_or-set_same leaving (a - 1) (get_or leaving (a - 1) 0 + 1) 0 (inside a (length leaving) l k)
        ∙ ap (λ (n : ℕ). n + 1) (h (a - 1) (inside a (length leaving) l k))
        ∙ ap (λ (n : ℕ). leaving_of lines n + 1) (its a l)
        ∙ ap (λ (n : ℕ). leaving_of lines a + n) (sym (cond_same a))
        ∙ sym (leaving_more lines m a b a)
        ∙ ap (leaving_of (lines ++ (m, a, b) ∷ [])) (sym (its a l) ∙ ap (λ (n : ℕ). n + 1) (sym (at i a e)))
    by false e = get_or-set_other leaving (a - 1) i (get_or leaving (a - 1) 0 + 1) 0 (not_at i (a - 1) e)
        ∙ h i j ∙ sym (plain (leaving_of lines (i + 1)))
        ∙ ap (λ (n : ℕ). leaving_of lines (i + 1) + n) (sym (cond_other a (i + 1) (other i a l e)))
        ∙ sym (leaving_more lines m a b (i + 1))

-- one less leaves the start of the line that leaves
count_less : (leaving : List ℕ) (made : List (Option Side)) (k : ℕ) (s : Side) → 1 ≤ s.from → s.from ≤ length leaving → side_at made k ≡ Some s → ((i : ℕ) → i < length leaving → get_or leaving i 0 ≡ leaving_of (lines_from 1 made) (i + 1)) →
    (i : ℕ) → i < length leaving → get_or (set leaving (s.from - 1) (get_or leaving (s.from - 1) 0 - 1)) i 0 ≡ leaving_of (lines_from 1 (set made k None)) (i + 1)
count_less leaving made k s l m here h i j = by (nat_eq i (s.from - 1)) refl
  where
    inside : (a n : ℕ) → 1 ≤ a → a ≤ n → a - 1 < n
    inside a n l k = omega arith

    other : (i a : ℕ) → 1 ≤ a → nat_eq i (a - 1) ≡ false → a ≡ i + 1 → ⊥
    other i a l e h = grind arith

    at : (i a : ℕ) → nat_eq i (a - 1) ≡ true → i ≡ a - 1
    at i a e = grind arith

    its : (a : ℕ) → 1 ≤ a → (a - 1) + 1 ≡ a
    its a l = omega arith

    not_at : (i k : ℕ) → nat_eq i k ≡ false → i ≢ k
    not_at i k e h = grind arith

    less : (x y : ℕ) → x + 1 ≡ y → y - 1 ≡ x
    less x y e = omega arith

    same : (x y : ℕ) → x + 0 ≡ y → y ≡ x
    same x y e = omega arith

    by : (c : Bool) → nat_eq i (s.from - 1) ≡ c → get_or (set leaving (s.from - 1) (get_or leaving (s.from - 1) 0 - 1)) i 0 ≡ leaving_of (lines_from 1 (set made k None)) (i + 1)
    by true e = ap (λ (n : ℕ). get_or (set leaving (s.from - 1) (get_or leaving (s.from - 1) 0 - 1)) n 0) (at i s.from e)
        ∙ get_or-set_same leaving (s.from - 1) (get_or leaving (s.from - 1) 0 - 1) 0 (inside s.from (length leaving) l m)
        ∙ ap (λ (n : ℕ). n - 1) (h (s.from - 1) (inside s.from (length leaving) l m) ∙ ap (leaving_of (lines_from 1 made)) (its s.from l))
        ∙ less (leaving_of (lines_from 1 (set made k None)) s.from) (leaving_of (lines_from 1 made) s.from) (ap (λ (n : ℕ). leaving_of (lines_from 1 (set made k None)) s.from + n) (sym (cond_same s.from)) ∙ leaving_less s.from 1 k made s here)
        ∙ ap (leaving_of (lines_from 1 (set made k None))) (sym (its s.from l) ∙ ap (λ (n : ℕ). n + 1) (sym (at i s.from e)))
    by false e = get_or-set_other leaving (s.from - 1) i (get_or leaving (s.from - 1) 0 - 1) 0 (not_at i (s.from - 1) e)
        ∙ h i j ∙ same (leaving_of (lines_from 1 (set made k None)) (i + 1)) (leaving_of (lines_from 1 made) (i + 1)) (ap (λ (n : ℕ). leaving_of (lines_from 1 (set made k None)) (i + 1) + n) (sym (cond_other s.from (i + 1) (other i s.from l e))) ∙ leaving_less (i + 1) 1 k made s here)

-- ---- the tables after a line has joined
pub tables_joined : {points : List Point} {leaving : List ℕ} {made : List (Option Side)} {number after : Side → Option ℕ} → AreTables points leaving made number → (t : Side) → IsListed (length points) t.from → IsListed (length points) t.to →
    number t ≡ None → ((q : Side) → after q ≡ cond (same_side t q) (Some (length made + 1)) (number q)) → AreTables points (set leaving (t.from - 1) (get_or leaving (t.from - 1) 0 + 1)) (made ++ Some t ∷ []) after
tables_joined {points} {leaving} {made} {number} {after} h t listed_from listed_to absent put = record {
  joined = λ i s e. elim (push_place made t s i e) [ inl k ↦ h.joined i s k | inr k ↦ subst (λ (u : Side). IsListed (length points) u.from × IsListed (length points) u.to) k.1 (listed_from, listed_to) ];
  found = λ i s e. elim (push_place made t s i e) [
    | inl k ↦ put s ∙ ap (λ b. cond b (Some (length made + 1)) (number s)) (different s i k) ∙ h.found i s k
    | inr k ↦ put s ∙ ap (λ b. cond b (Some (length made + 1)) (number s)) (subst (λ (u : Side). same_side t u ≡ true) k.1 (same_self t)) ∙ ap (λ (n : ℕ). Some (n + 1)) (sym k.0)
  ];
  kept = λ s n e. by s n (same_side t s) refl (sym (put s) ∙ e);
  as_many = length-set leaving (t.from - 1) (get_or leaving (t.from - 1) 0 + 1) ∙ h.as_many;
  counted = λ i l. count_more leaving (lines_from 1 made) (1 + length made) t.from t.to listed_from.0 (subst (λ (n : ℕ). t.from ≤ n) (sym h.as_many) listed_from.1) (λ i l. h.counted i (subst (λ (n : ℕ). i < n) h.as_many l)) i (subst (λ (n : ℕ). i < n) (sym h.as_many) l)
      ∙ ap (λ ls. leaving_of ls (i + 1)) (sym (lines_push 1 made t));
}
  where
    different : (s : Side) (i : ℕ) → side_at made i ≡ Some s → same_side t s ≡ false
    different s i k = test (same_side t s) refl
      where
        test : (b : Bool) → same_side t s ≡ b → b ≡ false
        test true e = no_number (i + 1) (sym absent ∙ ap number (same_sound t s e) ∙ h.found i s k)
        test false e = refl

    last : (m n : ℕ) → m + 1 ≡ n → (1 ≤ n) × (m ≡ n - 1)
    last m n e = (omega arith, omega arith)

    by : (s : Side) (n : ℕ) (b : Bool) → same_side t s ≡ b → cond (same_side t s) (Some (length made + 1)) (number s) ≡ Some n → (1 ≤ n) × (side_at (made ++ Some t ∷ []) (n - 1) ≡ Some s)
    by s n true e k =
        let at = last (length made) n (one_number (length made + 1) n (ap (λ b. cond b (Some (length made + 1)) (number s)) (sym e) ∙ k)) in
        (at.0, subst (λ (i : ℕ). side_at (made ++ Some t ∷ []) i ≡ Some s) at.1 (push_new made t ∙ ap Some (same_sound t s e)))
    by s n false e k = let old = h.kept s n (ap (λ b. cond b (Some (length made + 1)) (number s)) (sym e) ∙ k) in (old.0, push_old made t s (n - 1) old.1)

-- ---- and after a line has left
pub tables_left : {points : List Point} {leaving : List ℕ} {made : List (Option Side)} {number after : Side → Option ℕ} → AreTables points leaving made number → (s : Side) (n : ℕ) → number s ≡ Some n →
    ((q : Side) → after q ≡ cond (same_side s q) None (number q)) → AreTables points (set leaving (s.from - 1) (get_or leaving (s.from - 1) 0 - 1)) (set made (n - 1) None) after
tables_left {points} {leaving} {made} {number} {after} h s n there put = record {
  joined = λ i t e. h.joined i t (left_place made (n - 1) i t e).1;
  found = λ i t e. let k = left_place made (n - 1) i t e in put t ∙ ap (λ b. cond b None (number t)) (different t i k.0 k.1) ∙ h.found i t k.1;
  kept = λ t m e. by t m (same_side s t) refl (sym (put t) ∙ e);
  as_many = length-set leaving (s.from - 1) (get_or leaving (s.from - 1) 0 - 1) ∙ h.as_many;
  counted = λ i l. count_less leaving made (n - 1) s listed.0 (subst (λ (n : ℕ). s.from ≤ n) (sym h.as_many) listed.1) (h.kept s n there).1 (λ i l. h.counted i (subst (λ (n : ℕ). i < n) h.as_many l)) i (subst (λ (n : ℕ). i < n) (sym h.as_many) l);
}
  where
    listed : IsListed (length points) s.from
    listed = (h.joined (n - 1) s (h.kept s n there).1).0

    place : (n i : ℕ) → n ≡ i + 1 → i ≡ n - 1
    place n i e = omega arith

    different : (t : Side) (i : ℕ) → i ≢ n - 1 → side_at made i ≡ Some t → same_side s t ≡ false
    different t i o k = test (same_side s t) refl
      where
        test : (b : Bool) → same_side s t ≡ b → b ≡ false
        test true e = absurd (o (place n i (one_number n (i + 1) (sym there ∙ ap number (same_sound s t e) ∙ h.found i t k))))
        test false e = refl

    by : (t : Side) (m : ℕ) (b : Bool) → same_side s t ≡ b → cond (same_side s t) None (number t) ≡ Some m → (1 ≤ m) × (side_at (set made (n - 1) None) (m - 1) ≡ Some t)
    by t m true e k = no_number m (ap (λ b. cond b None (number t)) (sym e) ∙ k)
    by t m false e k =
        let old = h.kept t m (ap (λ b. cond b None (number t)) (sym e) ∙ k) in
        (old.0, get_or-set_other made (n - 1) (m - 1) None None (apart t m e old.0 old.1) ∙ old.1)
      where
        clash : {A : Type 0} → true ≡ false → A
        clash e = absurd (cc)

        some_side : (s t : Side) → Some s ≡ Some t → s ≡ t
        some_side s t e = cc

        apart : (t : Side) (m : ℕ) → same_side s t ≡ false → 1 ≤ m → side_at made (m - 1) ≡ Some t → m - 1 ≢ n - 1
        apart t m e l k i = clash (sym (subst (λ (u : Side). same_side s u ≡ true) (some_side s t (sym (h.kept s n there).1 ∙ ap (side_at made) (sym i) ∙ k)) (same_self s)) ∙ e)

-- ---- for the bodies that put a line in and take one off
-- no more lines leave a point than the table has places
pub few_leave : (n p : ℕ) (made : List (Option Side)) → leaving_of (lines_from n made) p ≤ length made
few_leave n p [] = omega arith
few_leave n p (None ∷ made) = more (leaving_of (lines_from (n + 1) made) p) (length made) (few_leave (n + 1) p made)
  where
    more : (k m : ℕ) → k ≤ m → k ≤ suc m
    more k m h = omega arith
few_leave n p (Some s ∷ made) = more (nat_eq s.from p) (leaving_of (lines_from (n + 1) made) p) (length made) (few_leave (n + 1) p made)
  where
    more : (b : Bool) (k m : ℕ) → k ≤ m → cond b 1 0 + k ≤ suc m
    more true k m h = omega arith
    more false k m h = omega arith

module _ {points : List Point} {leaving : List ℕ} {made : List (Option Side)} {number : Side → Option ℕ} (h : AreTables points leaving made number) where
  its_place : (a : ℕ) → IsListed (length points) a → a - 1 < length points
  its_place a l = inside a (length points) l.0 l.1
    where
      inside : (a n : ℕ) → 1 ≤ a → a ≤ n → a - 1 < n
      inside a n l k = omega arith

  its_count : (a : ℕ) → IsListed (length points) a → get_or leaving (a - 1) 0 ≡ leaving_of (lines_from 1 made) a
  its_count a l = h.counted (a - 1) (its_place a l) ∙ ap (leaving_of (lines_from 1 made)) (back a l.0)
    where
      back : (a : ℕ) → 1 ≤ a → (a - 1) + 1 ≡ a
      back a l = omega arith

  -- the start of a line is left by one at least
  pub is_left : (s : Side) (n : ℕ) → number s ≡ Some n → 1 ≤ get_or leaving (s.from - 1) 0
  is_left s n e = at_least (leaving_of (lines_from 1 (set made (n - 1) None)) s.from) (leaving_of (lines_from 1 made) s.from) (get_or leaving (s.from - 1) 0) (its_count s.from (h.joined (n - 1) s (h.kept s n e).1).0)
      (ap (λ (k : ℕ). leaving_of (lines_from 1 (set made (n - 1) None)) s.from + k) (sym (cond_same s.from)) ∙ leaving_less s.from 1 (n - 1) made s (h.kept s n e).1)
    where
      at_least : (a b c : ℕ) → c ≡ b → a + 1 ≡ b → 1 ≤ c
      at_least a b c e f = omega arith

  -- and the count has room for one more where the table has
  pub may_rise : (a : ℕ) → IsListed (length points) a → get_or leaving (a - 1) 0 ≤ length made
  may_rise a l = subst (λ (k : ℕ). k ≤ length made) (sym (its_count a l)) (few_leave 1 a made)

  pub lines_left : (next : ℕ) (s : Side) (n : ℕ) → number s ≡ Some n → lines_from 1 (set made (n - 1) None) ≡ glue_line (lines_from 1 made) next (s.from, s.to)
  lines_left next s n e = sym (glue_present 1 (n - 1) next made s (first_at h s n e))

  -- the two steps, with the count as it was read
  pub joined_at : {after : Side → Option ℕ} (t : Side) (k n : ℕ) → k ≡ get_or leaving (t.from - 1) 0 → n ≡ length made + 1 → IsListed (length points) t.from → IsListed (length points) t.to → number t ≡ None →
      ((q : Side) → after q ≡ cond (same_side t q) (Some n) (number q)) → AreTables points (set leaving (t.from - 1) (k + 1)) (made ++ Some t ∷ []) after
  joined_at {after} t k n e f from to absent put = subst (λ (m : ℕ). AreTables points (set leaving (t.from - 1) (m + 1)) (made ++ Some t ∷ []) after) (sym e)
      (tables_joined h t from to absent (λ q. put q ∙ ap (λ (m : ℕ). cond (same_side t q) (Some m) (number q)) f))

  pub left_at : {after : Side → Option ℕ} (s : Side) (n k : ℕ) → k ≡ get_or leaving (s.from - 1) 0 → number s ≡ Some n → ((q : Side) → after q ≡ cond (same_side s q) None (number q)) →
      AreTables points (set leaving (s.from - 1) (k - 1)) (set made (n - 1) None) after
  left_at {after} s n k e there put = subst (λ (m : ℕ). AreTables points (set leaving (s.from - 1) (m - 1)) (set made (n - 1) None) after) (sym e) (tables_left h s n there put)

-- ---- a point more
-- no line leaves a point that no line of the table names
none_leaves : (n p : ℕ) (made : List (Option Side)) → ((i : ℕ) (s : Side) → side_at made i ≡ Some s → s.from < p) → leaving_of (lines_from n made) p ≡ 0
none_leaves n p [] h = refl
none_leaves n p (None ∷ made) h = none_leaves (n + 1) p made (λ i s e. h (suc i) s e)
none_leaves n p (Some t ∷ made) h = ap (λ (k : ℕ). k + leaving_of (lines_from (n + 1) made) p) (cond_other t.from p (below t.from p (h zero t refl))) ∙ plain (leaving_of (lines_from (n + 1) made) p) (none_leaves (n + 1) p made (λ i s e. h (suc i) s e))
  where
    plain : (k : ℕ) → k ≡ 0 → 0 + k ≡ 0
    plain k e = omega arith

    below : (a p : ℕ) → a < p → a ≡ p → ⊥
    below a p l e = omega arith

pub tables_listed : {points : List Point} {leaving : List ℕ} {made : List (Option Side)} {number : Side → Option ℕ} (p : Point) → AreTables points leaving made number → AreTables (points ++ p ∷ []) (leaving ++ 0 ∷ []) made number
tables_listed {points} {leaving} {made} {number} p h = record {
  joined = λ i s e. let k = h.joined i s e in (more k.0, more k.1);
  found = h.found;
  kept = h.kept;
  as_many = length-append leaving (0 ∷ []) ∙ ap (λ (n : ℕ). n + 1) h.as_many ∙ sym (length-append points (p ∷ []));
  counted = λ i l. by (compared i (length points) (subst (λ (n : ℕ). i < n) (length-append points (p ∷ [])) l));
}
  where
    more : {k : ℕ} → IsListed (length points) k → IsListed (length (points ++ p ∷ [])) k
    more {k} l = (l.0, subst (λ (n : ℕ). k ≤ n) (sym (length-append points (p ∷ []))) (next k (length points) l.1))
      where
        next : (k n : ℕ) → k ≤ n → k ≤ n + 1
        next k n h = omega arith

    compared : (i n : ℕ) → i < n + 1 → (i < n) ⊎ (i ≡ n)
    compared i n l = grind arith

    by : {i : ℕ} → (i < length points) ⊎ (i ≡ length points) → get_or (leaving ++ 0 ∷ []) i 0 ≡ leaving_of (lines_from 1 made) (i + 1)
    by {i} (inl l) = get_or_append_left leaving (0 ∷ []) 0 i (subst (λ (n : ℕ). i < n) (sym h.as_many) l) ∙ h.counted i l
    by {i} (inr e) = ap (λ (n : ℕ). get_or (leaving ++ 0 ∷ []) n 0) (e ∙ sym h.as_many) ∙ last leaving ∙ sym (ap (λ (n : ℕ). leaving_of (lines_from 1 made) (n + 1)) e ∙ none_leaves 1 (length points + 1) made (λ i s k. below s.from (length points) (h.joined i s k).0.1))
      where
        last : (ks : List ℕ) → get_or (ks ++ 0 ∷ []) (length ks) 0 ≡ 0
        last [] = refl
        last (k ∷ ks) = last ks

        below : (a n : ℕ) → a ≤ n → a < n + 1
        below a n h = omega arith

-- the same, with the tables as they were filled
pub listed_at : {points after : List Point} {leaving counts : List ℕ} {made : List (Option Side)} {number : Side → Option ℕ} (p : Point) → AreTables points leaving made number → after ≡ points ++ p ∷ [] → counts ≡ leaving ++ 0 ∷ [] →
    AreTables after counts made number
listed_at {points} {after} {leaving} {counts} {made} {number} p h e f = subst (λ ps. AreTables ps counts made number) (sym e) (subst (λ ks. AreTables (points ++ p ∷ []) ks made number) (sym f) (tables_listed p h))

-- tables with the same entries agree too
pub tables_kept : {points others : List Point} {leaving counts : List ℕ} {made rows : List (Option Side)} {entries pairs : List (Side × ℕ)} → AreTables points leaving made (λ s. lookup (same_side s) entries) → others ≡ points → counts ≡ leaving → rows ≡ made → pairs ≡ entries →
    AreTables others counts rows (λ s. lookup (same_side s) pairs)
tables_kept {points} {others} {leaving} {counts} {made} {rows} {entries} {pairs} h e f g i =
    subst (λ ps. AreTables ps counts rows (λ s. lookup (same_side s) pairs)) (sym e)
    (subst (λ ks. AreTables points ks rows (λ s. lookup (same_side s) pairs)) (sym f)
    (subst (λ ms. AreTables points leaving ms (λ s. lookup (same_side s) pairs)) (sym g)
    (subst (λ es. AreTables points leaving made (λ s. lookup (same_side s) es)) (sym i) h)))
