use mir.Val.{SFits}
use mir.Syntax.{w64}
use Rattle.std.proofs.Common.{ℤ, pos, ◌<ℤ◌, sym, subst}
use Rattle.std.proofs.lemmas.Int.{to_z-of_z}
use Rattle.rule_maps.proofs.Frames.{frame_bounds}
use Rattle.rule_maps.proofs.Putting.{square_positive}
use Rattle.rule_maps.proofs.frame.Frame.square.Goals as goal

pub returns-clause-positive : goal.returns-clause-positive
returns-clause-positive c = let f : SFits w64 c.dot_of.result = record { sfits = c.dot_of.type_inv } in simp to_z-of_z (subst (λ (z : ℤ). pos 0 <ℤ z) (sym c.dot_of.ensures.value) (square_positive _ (frame_bounds _ c.self.invariant)))
