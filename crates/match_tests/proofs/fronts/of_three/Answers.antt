use Rattle.match_tests.proofs.Openings.{three_open}
use Rattle.match_tests.proofs.fronts.of_three.Goals as goal

pub open-requires : goal.open-requires
open-requires c = three_open c.point.result c.point-2.result c.point-3.result (c.is_polygon.ensures c.if-not-is_polygon.false)
