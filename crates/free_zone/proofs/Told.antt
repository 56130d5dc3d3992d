-- What is told once all near lines were looked at.
use Prim.Native.Nat.{ℕ}
use mathlib.Core.Path.{◌≡◌, refl, subst}
use mathlib.Core.List.{List}
use mathlib.Core.Logic.{◌⊎◌, inl, inr}
use Rattle.std.specs.Prelude.{Option, Some, None, IfSome, IfNone}
use Rattle.grid_geom.specs.declared.Point.{Point}
use Rattle.state_law.proofs.Lists.{all_map}
use Rattle.free_zone.specs.declared.blocked.Found.{Found}
use Rattle.free_zone.specs.InTheWay.{Mapped, IsFreeLine, HasNoPoint, HasNoLine, IsPointInWay, IsLineInWay, IsLeast}
use Rattle.free_zone.specs.Walked.{IsAtMost, IsCounted, IsFound}
use Rattle.free_zone.proofs.AtNumbers.{at_number}

-- counted, in other words
pub counted_as : (free way free_too way_too : Type 0) (n : ℕ) (old new : Option ℕ) → (free → free_too) → (way → way_too) → IsCounted free way n old new → IsCounted free_too way_too n old new
counted_as free way free_too way_too n old new f g h = record {
  found = at new h.found;
  passed = elim h.passed [ inl k ↦ inl (f k) | inr k ↦ inr k ];
  kept = h.kept;
}
  where
    at : (o : Option ℕ) → IfSome o (λ v. (old ≡ Some v) ⊎ ((v ≡ n) × way)) → IfSome o (λ v. (old ≡ Some v) ⊎ ((v ≡ n) × way_too))
    at None k = tt
    at (Some v) (inl e) = inl e
    at (Some v) (inr k) = inr (k.0, g k.1)

module _ (zone : List Point) (m : Mapped) (f : Found) (h : IsFound zone m f) where
  pub point_least : (n : ℕ) → f.point ≡ Some n → IsLeast (IsPointInWay zone m) n
  point_least n e = record {
    is = subst (λ o. IfSome o (IsPointInWay zone m)) e h.point;
    least = λ k w. elim (h.points k w.on_front) [ inl free ↦ elim free [ inl c ↦ absurd (w.not_mapped c) | inr o ↦ absurd (o w.inside) ] | inr a ↦ subst (λ o. IsAtMost o k) e a ];
  }

  no_point : f.point ≡ None → HasNoPoint zone m
  no_point e = λ n p. elim (h.points n p) [ inl free ↦ free | inr a ↦ absurd (subst (λ o. IsAtMost o n) e a) ]

  pub line_first : (n : ℕ) → f.line ≡ Some n → IsLeast (IsLineInWay zone m) n
  line_first n i = record {
    is = subst (λ o. IfSome o (IsLineInWay zone m)) i h.line;
    least = λ k w. elim (at_number (λ line. IsFreeLine zone m (line.1, line.2) ⊎ IsAtMost f.line line.0) m.front.lines k w.ends h.lines w.on_front) [
      | inl free ↦ elim free [ inl c ↦ absurd (w.not_mapped c) | inr o ↦ absurd (w.not_apart o) ]
      | inr a ↦ subst (λ o. IsAtMost o k) i a
    ];
  }

  pub no_line : f.line ≡ None → HasNoLine zone m
  no_line i = all_map (λ line. IsFreeLine zone m (line.1, line.2) ⊎ IsAtMost f.line line.0) (λ line. IsFreeLine zone m (line.1, line.2)) (λ line k. elim k [ inl free ↦ free | inr a ↦ absurd (subst (λ o. IsAtMost o line.0) i a) ]) m.front.lines h.lines

  pub line_least : (n : ℕ) → f.point ≡ None → f.line ≡ Some n → HasNoPoint zone m × IsLeast (IsLineInWay zone m) n
  line_least n e i = (no_point e, line_first n i)

  pub nothing : f.point ≡ None → f.line ≡ None → HasNoPoint zone m × HasNoLine zone m
  nothing e i = (no_point e, no_line i)

  -- the least line, whatever points are in the way
  pub line_told : (o : Option ℕ) → f.line ≡ o → IfSome o (IsLeast (IsLineInWay zone m))
  line_told None i = tt
  line_told (Some n) i = line_first n i

  pub none_told : (o : Option ℕ) → f.line ≡ o → IfNone o (HasNoLine zone m)
  none_told None i = no_line i
  none_told (Some n) i = tt
