-- How far mapped points are from their places in a rule at most, by the tolerances of a class.
--
-- IsEllipse      the deviations that a tolerance allows fill an ellipse
-- IsLeewayAt     no point in range that is tolerated at the class is farther from its place in the rule
-- AreLeewaysAt   so of each point of a rule, in its order
use Rattle.std.specs.Prelude.{◌≡◌, ℕ, ◌≤◌, List, [], ◌∷◌, pos, ◌-ℤ◌, ◌*ℤ◌}
use Rattle.grid_geom.specs.declared.Point.{Point}
use Rattle.rule_reader.specs.declared.rule.MapPoint.{MapPoint}
use Rattle.rule_reader.specs.declared.rule.Triple.{Triple}
use Rattle.rule_maps.specs.declared.reach.Leeway.{Leeway}
use Rattle.rule_maps.specs.Frame.{LocalFrame, IsFrame, IsInRange}
use Rattle.rule_maps.specs.Reach.{in_range, IsNearPlace, IsNoGreater}
use Rattle.rule_match.specs.declared.leeways.Ellipse.{Ellipse}
use Rattle.rule_match.specs.Candidate.{local4, IsPointTolerated}

-- f1 and f3 are positive, and so is the determinant 4 f1 f3 - f2 f2
pub record IsEllipse (f : Triple) (e : Ellipse) : Type 0 where
  pub f1 : pos e.f1 ≡ f.f1
  pub f3 : pos e.f3 ≡ f.f3
  pub determinant : pos e.determinant ≡ pos 4 *ℤ (f.f1 *ℤ f.f3) -ℤ f.f2 *ℤ f.f2
  pub positive : 1 ≤ e.determinant

pub record IsLeewayAt (class : ℕ) (p : MapPoint) (w : Leeway) : Type 0 where
  pub near : (f : LocalFrame) (at : Point) → IsFrame f → IsInRange f at
      → IsPointTolerated class (local4 f at) p → IsNearPlace f p w at
  pub no_greater : IsNoGreater w (in_range p)

abbrev pub AreLeewaysAt : ℕ → List MapPoint → List Leeway → Type 0
AreLeewaysAt class [] [] = Unit {0}
AreLeewaysAt class [] (w ∷ ws) = ⊥
AreLeewaysAt class (p ∷ ps) [] = ⊥
AreLeewaysAt class (p ∷ ps) (w ∷ ws) = IsLeewayAt class p w × AreLeewaysAt class ps ws
