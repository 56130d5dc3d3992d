use Rattle.std.proofs.Common.{subst}
use Rattle.mesh_check.specs.Whole.{DoesHang}
use Rattle.mesh_check.specs.Least.{IsLeast}
use Rattle.mesh_check.proofs.LeastPairs.{from_one}
use Rattle.mesh_check.proofs.hanging.hanging.Goals as goal

pub returns-in-Some-clause-found : goal.returns-in-Some-clause-found
returns-in-Some-clause-found c = from_one (DoesHang c.args.points.now c.args.elements.now) (c.in-Some.i, c.in-Some.k) (subst (IsLeast (DoesHang c.args.points.now c.args.elements.now)) c.in-Some.is c.in_ok-i.ensures)
