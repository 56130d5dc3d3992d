use Rattle.std.proofs.Common.{List, None, sym, subst, arith}
use Rattle.grid_geom.specs.declared.Point.{Point}
use Rattle.grid_geom.specs.Polygon.{sides}
use Rattle.mesh_check.specs.Least.{IsLeastNumber}
use Rattle.mesh_check.specs.Hung.{IsMetIn}
use Rattle.mesh_check.proofs.SliceParts.{split_first, none_left}
use Rattle.mesh_check.proofs.OpenSides.{no_side}
use Rattle.mesh_check.proofs.hanging.least_in.Goals as goal

pub returns-in-empty : goal.returns-in-empty
returns-in-empty c = subst (λ (ps : List Point). IsLeastNumber (IsMetIn c.args.hits.now (sides ps)) None) (sym (none_left c.args.corners.now (omega (arith, c.in-empty.len_below)))) (no_side c.args.hits.now)

pub returns-in-len1-up : goal.returns-in-len1-up
returns-in-len1-up c = subst (λ (ps : List Point). IsLeastNumber (IsMetIn c.args.hits.now (sides ps)) c.least_way.result) (sym (split_first c.args.corners.now _ (omega (arith, c.in-len1-up.len_at_least)))) c.least_way.ensures
