use Rattle.std.proofs.Common.{◌+◌, length}
use Rattle.std.specs.List.{flat_map}
use Rattle.state_law.specs.State.{number_sides, next_after_all}
use Rattle.front_chain.specs.Front.{numbered_from}
use Rattle.run_log.specs.View.{elements_made}
use Rattle.run_log.proofs.Least.{numbered_rise, rises_all, least_leaves}
use Rattle.run_log.proofs.laws.least_leaves.Goals as goal

pub returns-clause-rising : goal.returns-clause-rising
returns-clause-rising c = λ run k. (
  next_after_all (numbered_from 1 run.lines) (1 + length run.lines) (flat_map number_sides (elements_made run k)),
  rises_all (numbered_from 1 run.lines) (1 + length run.lines) (elements_made run k) (numbered_rise 1 run.lines),
)

pub returns-clause-least : goal.returns-clause-least
returns-clause-least c = least_leaves
