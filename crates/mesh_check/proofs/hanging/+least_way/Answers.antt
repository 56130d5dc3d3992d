use Rattle.std.proofs.Common.{List, sym, subst, arith}
use Rattle.grid_geom.specs.declared.Point.{Point}
use Rattle.grid_geom.specs.Polygon.{way_round}
use Rattle.mesh_check.specs.Least.{IsLeastNumber}
use Rattle.mesh_check.specs.Hung.{IsMetIn}
use Rattle.mesh_check.proofs.SliceParts.{split_first, none_left}
use Rattle.mesh_check.proofs.OpenSides.{next_side}
use Rattle.mesh_check.proofs.hanging.+least_way.Goals as goal

pub returns-in-empty : goal.returns-in-empty
returns-in-empty n c = subst (λ (ps : List Point). IsLeastNumber (IsMetIn c.args.hits.now (way_round c.args.first c.args.from ps)) c.least_on.result) (sym (none_left c.args.rest.now (omega (arith, c.in-empty.len_below)))) c.least_on.ensures

pub returns-in-len1-up : goal.returns-in-len1-up
returns-in-len1-up n c = subst (λ (ps : List Point). IsLeastNumber (IsMetIn c.args.hits.now (way_round c.args.first c.args.from ps)) c.least_of.result) (sym (split_first c.args.rest.now _ (omega (arith, c.in-len1-up.len_at_least))))
    (subst (IsLeastNumber (IsMetIn c.args.hits.now _)) (sym c.least_of.ensures)
    (next_side c.args.hits.now _ _ c.least_on-here.result c.least_way-ahead.result c.least_on-here.ensures c.least_way-ahead.ensures))
