use Rattle.mesh_check.proofs.Numbered.{numbered}
use Rattle.mesh_check.proofs.Domains.{chain_none, chain_some}
use Rattle.mesh_check.proofs.checking.least_chain.Goals as goal

pub returns-clause-some : goal.returns-clause-some
returns-clause-some c = chain_some c.args.g.now c.args.m.now c.as_slice.result.now c.as_slice-2.result.now c.least_difference.result c.domains-domains.ensures.accepted (numbered c.args.m.now c.requires.places c.requires.names) c.requires.domains c.as_slice.ensures c.as_slice-2.ensures c.least_difference.ensures.some

pub returns-clause-none : goal.returns-clause-none
returns-clause-none c = chain_none c.args.m.now c.as_slice.result.now c.as_slice-2.result.now c.least_difference.result (numbered c.args.m.now c.requires.places c.requires.names) c.as_slice.ensures c.as_slice-2.ensures c.least_difference.ensures.none
