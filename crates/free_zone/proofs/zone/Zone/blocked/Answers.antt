use Rattle.free_zone.specs.InTheWay.{mapping}
use Rattle.free_zone.proofs.Told.{point_least, line_least, nothing}
use Rattle.free_zone.proofs.zone.Zone.blocked.Goals as goal

pub returns-in-Some-default : goal.returns-in-Some-default
returns-in-Some-default c = point_least c.args.self.now (mapping c.args.front.now c.args.c.now c.args.mapped.now) c.found-found.result c.found-found.ensures c.in-Some-default.n c.in-Some-default.is-0

pub returns-in-None-Some : goal.returns-in-None-Some
returns-in-None-Some c = line_least c.args.self.now (mapping c.args.front.now c.args.c.now c.args.mapped.now) c.found-found.result c.found-found.ensures c.in-None-Some.n c.in-None-Some.is-0 c.in-None-Some.is-1

pub returns-in-None-None : goal.returns-in-None-None
returns-in-None-None c = nothing c.args.self.now (mapping c.args.front.now c.args.c.now c.args.mapped.now) c.found-found.result c.found-found.ensures c.in-None-None.is-0 c.in-None-None.is-1
