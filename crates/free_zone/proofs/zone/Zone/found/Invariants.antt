use Rattle.std.proofs.Common.{length, IsTrue}
use Rattle.std.specs.Prelude.{IfSome}
use Rattle.std.specs.Option.{option_map}
use Rattle.front_chain.specs.Front.{is_near, still_near}
use Rattle.free_zone.specs.InTheWay.{mapping}
use Rattle.free_zone.proofs.Walking.{IsUnderWay}
use Rattle.free_zone.proofs.zone.Zone.found.Given as goal

abbrev pub invariant-loop-next : goal.invariant-loop-next
invariant-loop-next l = IsUnderWay l.self (mapping l.front l.c l.mapped) l.near l.found (option_map (λ n. n.line) l.next) × IfSome l.next (λ n. IsTrue (is_near l.front l.near n.line))

abbrev pub decreases-loop-next : goal.decreases-loop-next
decreases-loop-next l = length (still_near l.front l.near (option_map (λ n. n.line) l.next))
