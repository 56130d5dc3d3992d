use Rattle.std.proofs.Common.{◌++◌, List, sym, ap, ◌∙◌}
use Rattle.size_field.specs.declared.pieces.Piece.{Piece}
use Rattle.size_field.specs.Cutting.{bound_by}
use Rattle.size_field.proofs.Cuts.{parts_whole, parts_two}
use Rattle.size_field.proofs.cutting.+push_parts.Goals as goal

pub returns-in_ok-push-in-None : goal.returns-in_ok-push-in-None
returns-in_ok-push-in-None t c =
    let whole = parts_whole (bound_by c.args.bound.now.sizes.now c.args.bound.now.most) c.args.halvings c.args.segment c.args.edge.now.a c.args.edge.now.b (sym c.in-None.ensures.place) in
    c.in_ok-push-in-None.ensures.items ∙ ap (λ (ps : List Piece). c.args.pieces.now.items ++ ps) (sym whole)

pub returns-in_ok-push_parts-in-Some-2 : goal.returns-in_ok-push_parts-in-Some-2
returns-in_ok-push_parts-in-Some-2 t c =
    parts_two (bound_by c.args.bound.now.sizes.now c.args.bound.now.most) c.args.halvings c.args.segment c.args.edge.now.a c.args.edge.now.b c.in-Some.middle _ _ _ (sym c.in-Some.ensures.place)
    c.in_ok-push_parts-in-Some.ensures c.in_ok-push_parts-in-Some-2.ensures
