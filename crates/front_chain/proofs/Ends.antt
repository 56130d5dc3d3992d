-- Front points: of closed lines a point is an end of one exactly where some line leaves it. Stands on state_law's Numbers (one number, one place).
use Prim.Native.Nat.{ℕ, ◌+◌, ◌≤◌, ◌<◌}
use lib.ListN.{length}
use mathlib.Core.Path.{◌≡◌, refl, sym, ap, ◌∙◌, subst}
use mathlib.Core.Bool.{Bool, true, false, cond, ◌||◌}
use mathlib.Core.List.{List, [], ◌∷◌}
use mathlib.Core.Logic.{◌⊎◌, inl, inr}
use native.Mathlib.Omega.{arith}
use Rattle.std.specs.Prelude.{nat_eq, nat_lt}
use Rattle.std.specs.List.{AllByRecursion, IsDistinct, list_any}
use Rattle.grid_geom.specs.declared.Point.{Point}
use Rattle.grid_geom.specs.Closed.{same_point, leaving, arriving, IsClosed}
use Rattle.state_law.specs.Saved.{IsFrontPoint}
use Rattle.state_law.specs.State.{State, point_at, front_edges, IsListed, IsNumbered}
use Rattle.state_law.proofs.Numbers.{same_number}
use Rattle.front_chain.specs.Front.{is_end}
use Rattle.front_chain.specs.Tables.{leaving_of}
use Rattle.front_chain.proofs.Above.{leaving_any}

-- how many lines arrive at the point with this number
arriving_of : List (ℕ × ℕ × ℕ) → ℕ → ℕ
arriving_of [] n = 0
arriving_of (line ∷ lines) n = cond (nat_eq line.2 n) 1 0 + arriving_of lines n

arriving_any : (lines : List (ℕ × ℕ × ℕ)) (n : ℕ) → nat_lt 0 (arriving_of lines n) ≡ list_any (λ line. nat_eq line.2 n) lines
unfolding arriving_of
arriving_any [] n = refl
arriving_any (line ∷ lines) n = by (nat_eq line.2 n) (arriving_any lines n)
  where
    positive : (k : ℕ) → nat_lt 0 (1 + k) ≡ true
    positive k = grind arith

    plain : (k : ℕ) → 0 + k ≡ k
    plain k = omega arith

    by : (b : Bool) → nat_lt 0 (arriving_of lines n) ≡ list_any (λ line. nat_eq line.2 n) lines → nat_lt 0 (cond b 1 0 + arriving_of lines n) ≡ (b || list_any (λ line. nat_eq line.2 n) lines)
    by true e = positive (arriving_of lines n)
    by false e = ap (nat_lt 0) (plain (arriving_of lines n)) ∙ e

-- ---- numbers and places count alike
abbrev Listed : ℕ → List (ℕ × ℕ × ℕ) → Type 0
Listed n lines = AllByRecursion (λ line. IsListed n line.1 × IsListed n line.2) lines

leaving_place : (points : List Point) (n : ℕ) → IsDistinct same_point points → IsListed (length points) n → (lines : List (ℕ × ℕ × ℕ)) → Listed (length points) lines → leaving (point_at points n) (front_edges points lines) ≡ leaving_of lines n
leaving_place points n d l [] h = refl
leaving_place points n d l (line ∷ lines) h = λ i. cond (same_number points line.1 n d h.0.0 l i) 1 0 + leaving_place points n d l lines h.1 i

arriving_place : (points : List Point) (n : ℕ) → IsDistinct same_point points → IsListed (length points) n → (lines : List (ℕ × ℕ × ℕ)) → Listed (length points) lines → arriving (point_at points n) (front_edges points lines) ≡ arriving_of lines n
unfolding arriving_of
arriving_place points n d l [] h = refl
arriving_place points n d l (line ∷ lines) h = λ i. cond (same_number points line.2 n d h.0.1 l i) 1 0 + arriving_place points n d l lines h.1 i

-- ---- the ends
either_way : (lines : List (ℕ × ℕ × ℕ)) (n : ℕ) → is_end lines n ≡ (list_any (λ line. nat_eq line.1 n) lines || list_any (λ line. nat_eq line.2 n) lines)
either_way [] n = refl
either_way (line ∷ lines) n = ap (λ b. (nat_eq line.1 n || nat_eq line.2 n) || b) (either_way lines n) ∙ mixed (nat_eq line.1 n) (nat_eq line.2 n) (list_any (λ line. nat_eq line.1 n) lines) (list_any (λ line. nat_eq line.2 n) lines)
  where
    mixed : (a b c d : Bool) → ((a || b) || (c || d)) ≡ ((a || c) || (b || d))
    mixed true b c d = refl
    mixed false true true d = refl
    mixed false true false d = refl
    mixed false false c d = refl

none_ends : (lines : List (ℕ × ℕ × ℕ)) (m n : ℕ) → (IsListed m n → ⊥) → Listed m lines → (list_any (λ line. nat_eq line.1 n) lines ≡ false) × (list_any (λ line. nat_eq line.2 n) lines ≡ false)
none_ends [] m n o h = (refl, refl)
none_ends (line ∷ lines) m n o h = let rest = none_ends lines m n o h.1 in
    (ap (λ b. b || list_any (λ line. nat_eq line.1 n) lines) (other line.1 h.0.0) ∙ rest.0, ap (λ b. b || list_any (λ line. nat_eq line.2 n) lines) (other line.2 h.0.1) ∙ rest.1)
  where
    same : (a n : ℕ) → nat_eq a n ≡ true → a ≡ n
    same a n e = grind arith

    other : (a : ℕ) → IsListed m a → nat_eq a n ≡ false
    other a l = by (nat_eq a n) refl
      where
        by : (b : Bool) → nat_eq a n ≡ b → b ≡ false
        by true e = absurd (o (subst (IsListed m) (same a n e) l))
        by false e = refl

listed_or_not : (m n : ℕ) → (IsListed m n) ⊎ (IsListed m n → ⊥)
listed_or_not m n = by (compared n m)
  where
    compared : (n m : ℕ) → ((1 ≤ n) × (n ≤ m)) ⊎ ((n < 1) ⊎ (m < n))
    compared n m = grind arith

    by : ((1 ≤ n) × (n ≤ m)) ⊎ ((n < 1) ⊎ (m < n)) → (IsListed m n) ⊎ (IsListed m n → ⊥)
    by (inl h) = inl h
    by (inr (inl h)) = inr (λ l. absurd (omega (arith, h, l.0)))
    by (inr (inr h)) = inr (λ l. absurd (omega (arith, h, l.1)))

pub end_leaves : (st : State) (n : ℕ) → IsNumbered st → IsClosed (front_edges st.points st.front) → list_any (λ line. nat_eq line.1 n) st.front ≡ is_end st.front n
end_leaves st n h closed = by (listed_or_not (length st.points) n)
  where
    same : (b c : Bool) → b ≡ c → b ≡ (b || c)
    same true c e = refl
    same false c e = e

    by : (IsListed (length st.points) n) ⊎ (IsListed (length st.points) n → ⊥) → list_any (λ line. nat_eq line.1 n) st.front ≡ is_end st.front n
    by (inl l) = same (list_any (λ line. nat_eq line.1 n) st.front) (list_any (λ line. nat_eq line.2 n) st.front)
        (sym (leaving_any st.front n) ∙ ap (nat_lt 0) (sym (leaving_place st.points n h.different l st.front h.lines_listed) ∙ closed.balanced (point_at st.points n) ∙ arriving_place st.points n h.different l st.front h.lines_listed) ∙ arriving_any st.front n)
        ∙ sym (either_way st.front n)
    by (inr o) = let k = none_ends st.front (length st.points) n o h.lines_listed in k.0 ∙ sym (λ i. k.0 i || k.1 i) ∙ sym (either_way st.front n)

-- a point that some line leaves is a front point
pub leaves_front : (points : List Point) (n : ℕ) (lines : List (ℕ × ℕ × ℕ)) → list_any (λ line. nat_eq line.1 n) lines ≡ true → IsFrontPoint (front_edges points lines) (point_at points n)
leaves_front points n [] e = absurd (cc)
leaves_front points n (line ∷ lines) e = by (nat_eq line.1 n) refl e (leaves_front points n lines)
  where
    same : (a n : ℕ) → nat_eq a n ≡ true → n ≡ a
    same a n e = grind arith

    by : (b : Bool) → nat_eq line.1 n ≡ b → (b || list_any (λ line. nat_eq line.1 n) lines) ≡ true → (list_any (λ line. nat_eq line.1 n) lines ≡ true → IsFrontPoint (front_edges points lines) (point_at points n)) → IsFrontPoint (front_edges points (line ∷ lines)) (point_at points n)
    by true f h rest = inl (inl (ap (point_at points) (same line.1 n f)))
    by false f h rest = inr (rest h)
