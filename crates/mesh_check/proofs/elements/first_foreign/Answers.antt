use Rattle.std.proofs.Common.{subst}
use Rattle.vol_format.specs.declared.MeshElement.{MeshElement}
use Rattle.mesh_check.specs.Whole.{HasDomainOf}
use Rattle.mesh_check.proofs.Prefixes.{each_more}
use Rattle.mesh_check.proofs.elements.first_foreign.Goals as goal

pub loop-i-preserved : goal.loop-i-preserved
loop-i-preserved c = each_more (HasDomainOf c.args.domains.now) c.args.elements.now c.loop-i.i c.index-elements-i.result c.loop-i-test.true
    (subst (λ (e : MeshElement). HasDomainOf c.args.domains.now e) c.index-elements-i.is (c.is_named.ensures.0 c.if-not-is_named.false)) c.loop-i.invariant
