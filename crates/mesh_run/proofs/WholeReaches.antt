-- What meets the box of a region meets the whole reach of its line, since no rule reaches farther at a class than at all classes.
use Rattle.std.proofs.Common.{◌≡◌, ℕ, ◌≤◌, List, [], ◌∷◌, refl, arith, ℤ, pos, neg_ℤ, ◌+ℤ◌, ◌-ℤ◌, ◌*ℤ◌, ◌≤ℤ◌}
use Rattle.std.specs.Int.{int_max, int_min}
use Rattle.std.proofs.lemmas.Int.{ints, clamps}
use Rattle.grid_geom.specs.declared.TheConstants.{GRID}
use Rattle.grid_geom.specs.declared.Point.{Point}
use Rattle.grid_geom.specs.declared.Bounds.{Bounds}
use Rattle.grid_geom.specs.Boxes.{DoBoundsMeet}
use Rattle.grid_geom.proofs.Ring.{var, num, ◌⊖◌, ◌⊗◌, ring}
use Rattle.grid_geom.proofs.Signs.{nn_mul}
use Rattle.size_field.specs.Size.{SizeField}
use Rattle.rule_maps.specs.Frame.{LocalFrame, IsFrame}
use Rattle.rule_maps.proofs.Frames.{frame_bounds}
use Rattle.rule_match.specs.Near.{widening, IsReachBox}
use Rattle.mesh_run.specs.Trials.{whole_reach}

grows : (k n : ℕ) (f : LocalFrame) → IsFrame f → k ≤ n → widening k f ≤ℤ widening n f
grows k n f i l = omega (
  arith,
  ints,
  l,
  nn_mul (pos 2 *ℤ pos n -ℤ pos 2 *ℤ pos k) f.h (omega (arith, ints, l)) (omega (arith, ints, (frame_bounds f i).high.least)),
  ring (pos n ∷ pos k ∷ f.h ∷ []) ((num (pos 2) ⊗ var 0 ⊖ num (pos 2) ⊗ var 1) ⊗ var 2) (num (pos 2) ⊗ var 0 ⊗ var 2 ⊖ num (pos 2) ⊗ var 1 ⊗ var 2) refl,
)

low : (x w v cut end : ℤ) → w ≤ℤ v → cut ≡ int_max (x -ℤ w) (neg_ℤ GRID) → cut ≤ℤ end → (x -ℤ v) ≤ℤ end
low x w v cut end g e l = omega (arith, ints, clamps)

high : (x w v cut start : ℤ) → w ≤ℤ v → cut ≡ int_min (x +ℤ w) GRID → start ≤ℤ cut → start ≤ℤ (x +ℤ v)
high x w v cut start g e l = omega (arith, ints, clamps)

module _ (sizes : SizeField) (points : List Point) (k n from to : ℕ) (box area : Bounds) where
  pub meets_whole : k ≤ n → (r : IsReachBox sizes points k from to box) → DoBoundsMeet box area → DoBoundsMeet (whole_reach n r.frame) area
  meets_whole l r m = let g = grows k n r.frame r.is_frame l in let f = r.frame in record {
    first_column = low f.p1.x (widening k f) (widening n f) box.lo.x area.hi.x g r.left m.first_column;
    second_column = high f.p1.x (widening k f) (widening n f) box.hi.x area.lo.x g r.right m.second_column;
    first_row = low f.p1.y (widening k f) (widening n f) box.lo.y area.hi.y g r.below m.first_row;
    second_row = high f.p1.y (widening k f) (widening n f) box.hi.y area.lo.y g r.above m.second_row;
  }
