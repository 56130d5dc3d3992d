use Rattle.std.proofs.Common.{◌∙◌, ◌≡◌}
use Rattle.grid_geom.specs.Area.{sweep_of}
use Rattle.geom_check.specs.Boundary.{point_at, edge_of}
use Rattle.netmesh_cli.proofs.Sweeps.{stays, swept_from_origin, segment_within, within_back}
use Rattle.netmesh_cli.proofs.areas.swept.Goals as goal

swept_is : (c : goal.After-orient) → c.orient.result ≡ sweep_of (edge_of c.args.points.now c.args.segment.now)
swept_is c = c.orient.ensures ∙ swept_from_origin (point_at c.args.points.now c.args.segment.now.p) (point_at c.args.points.now c.args.segment.now.q)

pub returns-clause-value : goal.returns-clause-value
returns-clause-value c = stays c.orient.result _ (swept_is c) (segment_within c.args.points.now c.args.segment.now c.requires.on_grid c.requires.joined)

pub returns-clause-small : goal.returns-clause-small
returns-clause-small c = within_back c.orient.result _ (swept_is c) (segment_within c.args.points.now c.args.segment.now c.requires.on_grid c.requires.joined)
