use Rattle.std.proofs.Common.{ℕ, ◌<◌}
use Rattle.mesh_check.specs.Whole.{IsChained}
use Rattle.mesh_check.proofs.Seen.{absent}
use Rattle.mesh_check.proofs.NoCornerHangs.{spared}
use Rattle.mesh_check.proofs.checking.spared_points.Goals as goal

pub returns-clause-unhung : goal.returns-clause-unhung
returns-clause-unhung c = λ i k l t. let s = c.in_ok-passed.ensures.spared i l t in spared c.args.g.now c.args.m.now c.domains-domains.ensures.accepted c.requires.names
    (record {
      places = c.requires.places;
      rows = c.requires.rows;
      domains = c.requires.domains;
      turned = c.requires.turned;
      chained = absent ((domain : ℕ) → 0 < domain → IsChained c.args.m.now domain) c.args.chain.now c.is_none.result c.is_none.ensures s.0 c.requires.chained;
    }) i k s.1
