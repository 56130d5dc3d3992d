use borrow.Author.Count.{below_more}
use mir.Val.{SFits}
use mir.Syntax.{w64}
use Rattle.std.proofs.lemmas.Int.{to_z-of_z}
use Rattle.grid_geom.proofs.Booleans.{not_left, passed_left}
use Rattle.grid_geom.proofs.polygons.rest_left.Goals as goal
use Rattle.grid_geom.proofs.polygons.rest_left.Goals.{else-j-i-via-then-j-i+then-j-next+else-turn-le0, else-j-i-via-then-j-i+else-j-next, else-j-i-via-else-j-i}

pub returns-then-turn-le0 : goal.returns-then-turn-le0
returns-then-turn-le0 c =
    let f : SFits w64 c.turn.result = record { sfits = c.turn.type_inv } in
    (λ t. absurd (cc), λ h. absurd (not_left c.turn.result (simp to_z-of_z at c.if-turn-le0.true) c.turn.ensures.value (h c.loop-j.j c.loop-j-test.true c.if-j-i.true c.if-j-next.true)))

pub loop-j-preserved : goal.loop-j-preserved
loop-j-preserved c = below_more _ _ c.loop-j.invariant (elim c.else-j-i.branch [
  | else-j-i-via-then-j-i+then-j-next+else-turn-le0 w ↦ λ n m. let f : SFits w64 w.turn.result = record { sfits = w.turn.type_inv } in passed_left w.turn.result (simp to_z-of_z at w.if-turn-le0.false) w.turn.ensures.value
  | else-j-i-via-then-j-i+else-j-next w ↦ λ n m. absurd (m w.if-j-next.false)
  | else-j-i-via-else-j-i w ↦ λ n m. absurd (n w.if-j-i.false)
])
