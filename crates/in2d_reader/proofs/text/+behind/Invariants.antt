use Rattle.std.proofs.Common.{length}
use Rattle.in2d_reader.proofs.text.+behind.Given as goal

abbrev pub decreases-behind : goal.decreases-behind
decreases-behind l = length l.front.now
