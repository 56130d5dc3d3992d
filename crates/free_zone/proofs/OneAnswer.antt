-- There is one answer: least numbers are equal, and where something is in the way not all is free.
use Prim.Native.Nat.{ℕ, ◌≤◌}
use mathlib.Core.Path.{◌≡◌, refl, ap}
use mathlib.Core.List.{List}
use mathlib.Core.Logic.{inl, inr}
use native.Mathlib.Omega.{arith}
use Rattle.std.specs.Prelude.{Option, Some, None}
use Rattle.grid_geom.specs.declared.Point.{Point}
use Rattle.free_zone.specs.declared.blocked.Blocker.{Blocker}
use Rattle.free_zone.specs.declared.blocked.Blocker.TheVariants.{Point as AtPoint, Line as AtLine}
use Rattle.free_zone.specs.InTheWay.{Mapped, IsFreeLine, HasNoPoint, HasNoLine, IsPointInWay, IsLineInWay, IsLeast, IsAnswer}
use Rattle.free_zone.proofs.AtNumbers.{at_number}

one_least : (P : ℕ → Type 0) (n k : ℕ) → IsLeast P n → IsLeast P k → n ≡ k
one_least P n k h i = between n k (h.least k i.is) (i.least n h.is)
  where
    between : (n k : ℕ) → n ≤ k → k ≤ n → n ≡ k
    between n k h i = omega arith

no_point : (zone : List Point) (m : Mapped) (n : ℕ) → HasNoPoint zone m → IsPointInWay zone m n → ⊥
no_point zone m n h w = elim (h n w.on_front) [ inl c ↦ w.not_mapped c | inr o ↦ o w.inside ]

no_line : (zone : List Point) (m : Mapped) (n : ℕ) → HasNoLine zone m → IsLineInWay zone m n → ⊥
no_line zone m n h w = elim (at_number (λ line. IsFreeLine zone m (line.1, line.2)) m.front.lines n w.ends h w.on_front) [ inl c ↦ w.not_mapped c | inr o ↦ w.not_apart o ]

pub one_answer : (zone : List Point) (m : Mapped) (x y : Option Blocker) → IsAnswer zone m x → IsAnswer zone m y → x ≡ y
one_answer zone m (Some (AtPoint n)) (Some (AtPoint k)) h i = ap (λ l. Some (AtPoint l)) (one_least (IsPointInWay zone m) n k h i)
one_answer zone m (Some (AtPoint n)) (Some (AtLine k)) h i = absurd (no_point zone m n i.0 h.is)
one_answer zone m (Some (AtPoint n)) None h i = absurd (no_point zone m n i.0 h.is)
one_answer zone m (Some (AtLine n)) (Some (AtPoint k)) h i = absurd (no_point zone m k h.0 i.is)
one_answer zone m (Some (AtLine n)) (Some (AtLine k)) h i = ap (λ l. Some (AtLine l)) (one_least (IsLineInWay zone m) n k h.1 i.1)
one_answer zone m (Some (AtLine n)) None h i = absurd (no_line zone m n i.1 h.1.is)
one_answer zone m None (Some (AtPoint k)) h i = absurd (no_point zone m k h.0 i.is)
one_answer zone m None (Some (AtLine k)) h i = absurd (no_line zone m k h.1 i.1.is)
one_answer zone m None None h i = refl
