use Rattle.std.proofs.Common.{ℕ, ◌∙◌, ◌++◌, ◌∷◌, [], List, map, take, sym, ap}
use Rattle.std.proofs.lemmas.List.Elements.{All-push, All-same}
use Rattle.admission.specs.declared.shapes.Shape.{Shape}
use Rattle.admission.specs.Triangles.{IsTriangleOnGrid}
use Rattle.admission.specs.Around.{all_points, shape_at}
use Rattle.admission.proofs.Held.{map_more}
use Rattle.admission.proofs.shapes.shapes_of.Goals as goal

pub loop-element-preserved : goal.loop-element-preserved
loop-element-preserved c = record {
  value = c.in_ok-push.ensures.items ∙ ap (λ (ss : List Shape). ss ++ c.shape_of.result ∷ []) c.loop-element.invariant.value
      ∙ ap (λ (s : Shape). map (shape_at (all_points c.args.front.now c.args.made.now)) (take c.loop-element.element-index c.args.elements.now) ++ s ∷ []) c.shape_of.ensures.value ∙ ap (λ (ns : List ℕ). map (shape_at (all_points c.args.front.now c.args.made.now)) (take c.loop-element.element-index c.args.elements.now) ++ shape_at (all_points c.args.front.now c.args.made.now) ns ∷ []) c.element-item.is ∙ sym (map_more (shape_at (all_points c.args.front.now c.args.made.now)) c.args.elements.now c.loop-element.element-index _ c.loop-element-test.true);
  on_grid = All-same (λ s. IsTriangleOnGrid s.t) _ _ c.in_ok-push.ensures.items (All-push (λ s. IsTriangleOnGrid s.t) _ c.shape_of.result c.loop-element.invariant.on_grid c.shape_of.ensures.on_grid);
}
