use mir.Val.{SFits}
use mir.Syntax.{w128}
use Rattle.std.proofs.Common.{◌∙◌, sym, subst}
use Rattle.std.proofs.lemmas.Int.{to_z-of_z}
use Rattle.grid_geom.specs.Bounds.{IsWithin}
use Rattle.front_chain.specs.declared.opening.TheConstants.{SWEEP}
use Rattle.front_chain.proofs.Openings.{origin_sweep, sweep_within}
use Rattle.front_chain.proofs.opening.swept.Goals as goal

pub returns-clause-value : goal.returns-clause-value
returns-clause-value c = let f : SFits w128 c.orient.result = record { sfits = c.orient.type_inv } in simp to_z-of_z (c.orient.ensures ∙ origin_sweep c.args.a c.args.b)

pub returns-clause-small : goal.returns-clause-small
returns-clause-small c = let f : SFits w128 c.orient.result = record { sfits = c.orient.type_inv } in
    simp to_z-of_z (subst (IsWithin SWEEP) (sym (c.orient.ensures ∙ origin_sweep c.args.a c.args.b)) (sweep_within c.args.a c.args.b c.requires.a_on c.requires.b_on))
