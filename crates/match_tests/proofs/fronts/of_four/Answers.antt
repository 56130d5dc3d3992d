use Rattle.match_tests.proofs.Openings.{four_open}
use Rattle.match_tests.proofs.fronts.of_four.Goals as goal

pub open-requires : goal.open-requires
open-requires c = four_open c.point.result c.point-2.result c.point-3.result c.point-4.result (c.is_polygon.ensures c.if-not-is_polygon.false)
