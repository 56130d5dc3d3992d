use Rattle.in2d_reader.proofs.Known.{knows_more}
use Rattle.in2d_reader.proofs.reader.Reader.push_point.Goals as goal

pub returns-clause-knows : goal.returns-clause-knows
returns-clause-knows c = rw c.in_ok-push.ensures.items (knows_more c.args.self.now.known c.insert.new.self c.args.self.now.points.items c.args.row c.requires c.in_ok-insert.ensures.updates)
