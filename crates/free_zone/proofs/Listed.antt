-- Of a list of the near lines each is looked at for itself: what is found is in the way, each line passed is free or no less, and a line that isn't near is free.
use Prim.Native.Nat.{ℕ, ◌+◌, ◌<◌, ◌≤◌}
use lib.ListN.{length}
use mathlib.Core.Path.{◌≡◌, refl, sym, ◌∙◌, subst}
use mathlib.Core.Bool.{Bool, true, false}
use mathlib.Core.List.{List}
use mathlib.Core.Logic.{◌⊎◌, inl, inr}
use native.Mathlib.Omega.{arith}
use Rattle.std.specs.Prelude.{Option, Some, None, IfSome, IfNone, slice_index_or}
use Rattle.grid_geom.specs.declared.Point.{Point}
use Rattle.grid_geom.specs.declared.Bounds.{Bounds}
use Rattle.front_chain.specs.Front.{IsFrontState, AreNear, line_at, is_near}
use Rattle.front_chain.proofs.NearLines.{place_of}
use Rattle.free_zone.specs.InTheWay.{Mapped, IsMappedLine, IsBeside, IsFreeLine, HasNoLine, IsLineInWay, IsLeast}
use Rattle.free_zone.specs.Walked.{IsAtMost, IsFreeAt, IsLinePassed, AreLinesPassed}
use Rattle.free_zone.proofs.AtNumbers.{each_number}
use Rattle.free_zone.proofs.Near.{IsBoxed, far_beside}
use Rattle.free_zone.proofs.Walking.{kept_or_new}

-- ---- one line
-- it is above one in the way
pub above : (zone : List Point) (m : Mapped) (k : ℕ) (found : Option ℕ) → IsAtMost found k → IsLinePassed zone m k found found
above zone m k found a = record { found = as_before found; passed = inr a; kept = λ j h. h }
  where
    as_before : (o : Option ℕ) → IfSome o (λ v. (o ≡ Some v) ⊎ ((v ≡ k) × IsLineInWay zone m k))
    as_before None = tt
    as_before (Some v) = inl refl

-- a line that is free is so at its number
pub free_at : (zone : List Point) (m : Mapped) (k : ℕ) (ends : ℕ × ℕ) → line_at m.front.lines k ≡ Some ends → IsFreeLine zone m ends → IsFreeAt zone m k
free_at zone m k ends e f others g = subst (IsFreeLine zone m) (one ends others (sym e ∙ g)) f
  where
    one : (u v : ℕ × ℕ) → Some u ≡ Some v → u ≡ v
    one u v e = cc

-- and one that isn't is in the way
pub in_way : (zone : List Point) (m : Mapped) (k : ℕ) (ends : ℕ × ℕ) → line_at m.front.lines k ≡ Some ends → ¬ (IsMappedLine m.rule m.numbers ends) × ¬ (IsBeside zone m.front ends) → IsLineInWay zone m k
in_way zone m k ends e n = record { ends = ends; on_front = e; not_mapped = n.0; not_apart = n.1 }

-- ---- one line after another
pub none_yet : (zone : List Point) (m : Mapped) (numbers : List ℕ) → AreLinesPassed zone m numbers 0 None
none_yet zone m numbers = record { line = tt; passed = λ i h. absurd (omega (arith, h)) }

pub one_more : {zone : List Point} {m : Mapped} {old new : Option ℕ} (numbers : List ℕ) (k : ℕ) → AreLinesPassed zone m numbers k old → IsLinePassed zone m (slice_index_or numbers k 0) old new → AreLinesPassed zone m numbers (k + 1) new
one_more {zone} {m} {old} {new} numbers k a p = record {
  line = kept_or_new (IsLineInWay zone m) (λ v. (v ≡ slice_index_or numbers k 0) × IsLineInWay zone m (slice_index_or numbers k 0)) old new a.line p.found (λ v q. subst (IsLineInWay zone m) (sym q.0) q.1);
  passed = λ i h. by i (compared i k h);
}
  where
    compared : (i k : ℕ) → i < k + 1 → (i < k) ⊎ (i ≡ k)
    compared i k h = grind arith

    by : (i : ℕ) → (i < k) ⊎ (i ≡ k) → IsFreeAt zone m (slice_index_or numbers i 0) ⊎ IsAtMost new (slice_index_or numbers i 0)
    by i (inl h) = elim (a.passed i h) [ inl f ↦ inl f | inr l ↦ inr (p.kept (slice_index_or numbers i 0) l) ]
    by i (inr e) = subst (λ (j : ℕ). IsFreeAt zone m (slice_index_or numbers j 0) ⊎ IsAtMost new (slice_index_or numbers j 0)) (sym e) p.passed

-- so many as are listed, or more
pub all_passed : {zone : List Point} {m : Mapped} {found : Option ℕ} (numbers : List ℕ) (k : ℕ) → length numbers ≤ k → AreLinesPassed zone m numbers k found → AreLinesPassed zone m numbers (length numbers) found
all_passed numbers k h a = record { line = a.line; passed = λ i l. a.passed i (on i (length numbers) k l h) }
  where
    on : (i m k : ℕ) → i < m → m ≤ k → i < k
    on i m k h l = omega arith

-- ---- the end
module _ {zone : List Point} {m : Mapped} {near : Bounds} (numbers : List ℕ) (z : IsBoxed zone near) (h : IsFrontState m.front) (n : AreNear m.front near numbers) where
  each : {found : Option ℕ} → AreLinesPassed zone m numbers (length numbers) found → (k : ℕ) → IsFreeAt zone m k ⊎ IsAtMost found k
  each {found} a k = by (is_near m.front near k) refl
    where
      by : (b : Bool) → is_near m.front near k ≡ b → IsFreeAt zone m k ⊎ IsAtMost found k
      by false e = inl (λ ends at. inr (far_beside zone m.front near k ends z h at e))
      by true e = let p = place_of n k e in subst (λ (j : ℕ). IsFreeAt zone m j ⊎ IsAtMost found j) p.2 (a.passed p.0 p.1)

  pub least_listed : (found : Option ℕ) → AreLinesPassed zone m numbers (length numbers) found → IfSome found (IsLeast (IsLineInWay zone m))
  least_listed None a = tt
  least_listed (Some v) a = record {
    is = a.line;
    least = λ k w. elim (each a k) [ inl f ↦ elim (f w.ends w.on_front) [ inl c ↦ absurd (w.not_mapped c) | inr o ↦ absurd (w.not_apart o) ] | inr l ↦ l ];
  }

  pub none_listed : (found : Option ℕ) → AreLinesPassed zone m numbers (length numbers) found → IfNone found (HasNoLine zone m)
  none_listed (Some v) a = tt
  none_listed None a = each_number (λ line. IsFreeLine zone m (line.1, line.2)) m.front.lines m.front.next h.rising (λ k ends at. elim (each a k) [ inl f ↦ f ends at | inr l ↦ absurd l ])
