use Rattle.std.proofs.Common.{◌≡◌, sym, subst, inl, inr}
use Rattle.admission.specs.Triangles.{corners_of_triangle, IsEnd, IsOnSide, IsLeastOrNone}
use Rattle.admission.proofs.Least.{either}
use Rattle.admission.proofs.lines.end_on_side.Goals as goal

pub returns : goal.returns
returns c =
    let cs = corners_of_triangle c.args.t.now in
    subst (IsLeastOrNone (IsEnd (IsOnSide cs) c.args.line.now)) (sym c.lesser.ensures)
    (either (λ n. IsOnSide cs c.args.line.now.a × (c.args.line.now.from ≡ n)) (λ n. IsOnSide cs c.args.line.now.b × (c.args.line.now.to ≡ n)) (IsEnd (IsOnSide cs) c.args.line.now) c.if_on_side.result c.if_on_side-2.result
    (record { left = λ n k. inl k; right = λ n k. inr k; back = λ n k. k }) c.if_on_side.ensures c.if_on_side-2.ensures)
