use Rattle.std.proofs.Common.{All}
use Rattle.mesh_check.specs.Whole.{HasDomainOf}
use Rattle.mesh_check.proofs.Seen.{all_of, if_none}
use Rattle.mesh_check.proofs.checking.domain_fault.Goals as goal

pub returns-in_err-element-clause-none : goal.returns-in_err-element-clause-none
returns-in_err-element-clause-none c = if_none (All (HasDomainOf c.args.g.now.domains) c.args.m.now.elements) c.from_residual.result (all_of _ _ _ _ c.domains.ensures.value c.as_slice.ensures c.in_err-element.ensures.none)
