use Rattle.front_chain.proofs.Ring.{ring_opens}
use Rattle.match_tests.proofs.fronts.ring.Goals as goal

pub open-requires : goal.open-requires
open-requires c = ring_opens
