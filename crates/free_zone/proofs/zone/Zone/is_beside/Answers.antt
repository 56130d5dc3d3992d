use Rattle.std.proofs.Common.{sym}
use Rattle.state_law.specs.State.{point_at}
use Rattle.free_zone.proofs.Near.{moved}
use Rattle.free_zone.proofs.zone.Zone.is_beside.Goals as goal

pub returns : goal.returns
returns c = (
  λ t. moved c.point.result c.point-2.result (point_at c.args.front.now.points c.args.ends.now.0) (point_at c.args.front.now.points c.args.ends.now.1) c.corners.result.now c.args.self.now
      c.point.ensures.value c.point-2.ensures.value c.corners.ensures.value (c.apart.ensures.apart.0 t),
  λ k. c.apart.ensures.apart.1 (moved (point_at c.args.front.now.points c.args.ends.now.0) (point_at c.args.front.now.points c.args.ends.now.1) c.point.result c.point-2.result c.args.self.now c.corners.result.now
      (sym c.point.ensures.value) (sym c.point-2.ensures.value) (sym c.corners.ensures.value) k),
)
