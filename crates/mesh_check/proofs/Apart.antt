-- Points with different numbers have different places, where all do.
use Rattle.std.proofs.Common.{◌≢◌, ℕ, ◌-◌, ◌<◌, ◌≤◌, List, length, inl, inr, sym, ◌∙◌, arith}
use Rattle.std.proofs.lemmas.Bool.{cases_order}
use Rattle.std.proofs.lemmas.List.{get_or_default}
use Rattle.std.specs.Prelude.{pos}
use Rattle.grid_geom.specs.declared.Point.{Point}
use Rattle.state_law.specs.State.{IsListed, point_at}
use Rattle.geom_check.specs.Accepted.{ArePlacesDifferent}

abbrev origin : Point
origin = record { x = pos 0; y = pos 0 }

lower : (points : List Point) (i j : ℕ) → ArePlacesDifferent points → 1 ≤ i → j ≤ length points → i < j → point_at points i ≢ point_at points j
lower points i j places hi hj l e = places (i - 1) (j - 1) (record {
  ordered = omega arith;
  in_list = omega arith;
  together = λ d. get_or_default points (i - 1) d origin (omega arith) ∙ e ∙ get_or_default points (j - 1) origin d (omega arith);
})

pub two_places : (points : List Point) (i j : ℕ) → ArePlacesDifferent points → IsListed (length points) i → IsListed (length points) j → i ≢ j → point_at points i ≢ point_at points j
two_places points i j places hi hj n e = elim (cases_order i j) [
  | inl f ↦ n f
  | inr r ↦ elim r [ inl l ↦ lower points i j places hi.0 hj.1 l e | inr l ↦ lower points j i places hj.0 hi.1 l (sym e) ]
]
