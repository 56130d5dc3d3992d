-- The least number of a longer list is the lesser of the least so far and that of the line that comes to it.
use Prim.Native.Nat.{ℕ, zero, suc, ◌+◌, ◌<◌, ◌≤◌}
use lib.ListN.{length, take, get_or}
use mathlib.Core.Path.{◌≡◌, sym, subst}
use mathlib.Core.List.{List, [], ◌∷◌}
use mathlib.Core.Logic.{◌⊎◌, inl, inr}
use native.Mathlib.Omega.{arith}
use Rattle.std.specs.Prelude.{Option, Some, None, min}
use Rattle.admission.specs.declared.triangle.Line.{Line}
use Rattle.grid_geom.specs.declared.Point.{Point}
use Rattle.admission.specs.declared.lines.Hindrances.{Hindrances}
use Rattle.admission.specs.Triangles.{HasSome, IsLeastOrNone, lesser_of, lesser_ways, AreLeast}

-- ---- two predicates
-- what has either is what has R
pub record IsEither (P Q R : ℕ → Type 0) : Type 0 where
  pub left : (n : ℕ) → P n → R n
  pub right : (n : ℕ) → Q n → R n
  pub back : (n : ℕ) → R n → P n ⊎ Q n

pub either : (P Q R : ℕ → Type 0) (x y : Option ℕ) → IsEither P Q R → IsLeastOrNone P x → IsLeastOrNone Q y → IsLeastOrNone R (lesser_of x y)
either P Q R None None e p q = λ m r. elim (e.back m r) [ inl k ↦ p m k | inr k ↦ q m k ]
either P Q R None (Some n) e p q = record { holds = e.right n q.holds; least = λ m r. elim (e.back m r) [ inl k ↦ absurd (p m k) | inr k ↦ q.least m k ] }
either P Q R (Some m) None e p q = record { holds = e.left m p.holds; least = λ k r. elim (e.back k r) [ inl h ↦ p.least k h | inr h ↦ absurd (q k h) ] }
either P Q R (Some m) (Some n) e p q = record {
  holds = elim (order m n) [ inl h ↦ subst R (sym (first m n h)) (e.left m p.holds) | inr h ↦ subst R (sym (second m n h)) (e.right n q.holds) ];
  least = λ k r. elim (e.back k r) [ inl h ↦ below_first m n k (p.least k h) | inr h ↦ below_second m n k (q.least k h) ];
}
  where
    order : (m n : ℕ) → (m ≤ n) ⊎ (n ≤ m)
    order m n = grind arith

    first : (m n : ℕ) → m ≤ n → min m n ≡ m
    first m n h = grind arith

    second : (m n : ℕ) → n ≤ m → min m n ≡ n
    second m n h = grind arith

    below_first : (m n k : ℕ) → m ≤ k → min m n ≤ k
    below_first m n k h = grind arith

    below_second : (m n k : ℕ) → n ≤ k → min m n ≤ k
    below_second m n k h = grind arith

-- ---- one more line
abbrev one_more : List Line → ℕ → List Line
one_more lines i = take (suc i) lines

grown : (R : Line → ℕ → Type 0) (lines : List Line) (i : ℕ) (d : Line) → i < length lines → IsEither (HasSome R (take i lines)) (R (get_or lines i d)) (HasSome R (one_more lines i))
grown R [] i d h = absurd (omega (arith, h))
grown R (line ∷ lines) zero d h = record { left = λ n k. absurd k; right = λ n k. inl k; back = λ n k. elim k [ inl r ↦ inr r | inr r ↦ absurd r ] }
grown R (line ∷ lines) (suc i) d h = let g = grown R lines i d (omega (arith, h)) in record {
  left = λ n k. elim k [ inl r ↦ inl r | inr r ↦ inr (g.left n r) ];
  right = λ n k. inr (g.right n k);
  back = λ n k. elim k [ inl r ↦ inl (inl r) | inr r ↦ elim (g.back n r) [ inl u ↦ inl (inr u) | inr u ↦ inr u ] ];
}

step : (R : Line → ℕ → Type 0) (lines : List Line) (i : ℕ) (d : Line) (x y : Option ℕ) → i < length lines → IsLeastOrNone (HasSome R (take i lines)) x → IsLeastOrNone (R (get_or lines i d)) y → IsLeastOrNone (HasSome R (take (i + 1) lines)) (lesser_of x y)
step R lines i d x y h p q = subst (λ (k : ℕ). IsLeastOrNone (HasSome R (take k lines)) (lesser_of x y)) (after i) (either (HasSome R (take i lines)) (R (get_or lines i d)) (HasSome R (one_more lines i)) x y (grown R lines i d h) p q)
  where
    after : (i : ℕ) → suc i ≡ i + 1
    after i = omega arith

pub least_step : (corners : List Point) (lines : List Line) (i : ℕ) (d : Line) (g h : Hindrances) → i < length lines → AreLeast corners (λ R. HasSome R (take i lines)) g → AreLeast corners (λ R. R (get_or lines i d)) h →
    AreLeast corners (λ R. HasSome R (take (i + 1) lines)) (lesser_ways g h)
least_step corners lines i d g h l a b = record {
  met = step _ lines i d g.met h.met l a.met b.met;
  on_side = step _ lines i d g.on_side h.on_side l a.on_side b.on_side;
  corner_on = step _ lines i d g.corner_on h.corner_on l a.corner_on b.corner_on;
  backwards = step _ lines i d g.backwards h.backwards l a.backwards b.backwards;
  side = step _ lines i d g.side h.side l a.side b.side;
}
