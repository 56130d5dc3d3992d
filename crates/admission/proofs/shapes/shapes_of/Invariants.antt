use Rattle.std.proofs.Common.{◌≡◌, map, take}
use Rattle.std.specs.List.{All}
use Rattle.admission.specs.Triangles.{IsTriangleOnGrid}
use Rattle.admission.specs.Around.{all_points, shape_at}
use Rattle.admission.proofs.shapes.shapes_of.Given as goal

abbrev pub invariant-loop-element : goal.invariant-loop-element
invariant-loop-element l = record {
  value : l.shapes.items ≡ map (shape_at (all_points l.front l.made)) (take l.element-index l.elements);
  on_grid : All (λ s. IsTriangleOnGrid s.t) l.shapes.items;
}
