use Rattle.mesh_check.proofs.Partition.{filled, sums, one_element}
use Rattle.mesh_check.proofs.NoSharedSide.{no_shared_side}
use Rattle.mesh_check.proofs.laws.law_partition.Goals as goal

pub returns : goal.returns
returns c = record { sums = λ g m domain q n w. sums g m domain q n (filled g m w); once = λ g m k e q w l r o. one_element q _ r (w.turned k e l) o; sides = λ g m i k e s h n w. no_shared_side g m i k e s h n (filled g m w) }
