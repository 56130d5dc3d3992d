use Rattle.std.proofs.Common.{ℕ, ◌≤◌}
use Rattle.std.specs.List.{AllByRecursion}
use Rattle.rule_match.specs.Near.{IsCoveredAt, IsCoveredBy}
use Rattle.mesh_run.proofs.Reaches.{one_more_each, one_more_long}
use Rattle.mesh_run.proofs.refusals.reaches_of.Goals as goal

pub loop-class-preserved : goal.loop-class-preserved
loop-class-preserved c = record {
  long = one_more_long c.loop-class.reaches.items c.push.new.self.items c.loop-class.class c.in_ok-greatest_reach_at.field-0 c.in_ok-push.ensures.items c.loop-class.invariant.long;
  covers = one_more_each (λ k n. AllByRecursion (IsCoveredAt k n) c.args.rules.now) c.loop-class.reaches.items c.push.new.self.items c.loop-class.class c.in_ok-greatest_reach_at.field-0 c.in_ok-push.ensures.items c.loop-class.invariant.long c.loop-class.invariant.covers
      c.in_ok-greatest_reach_at.ensures.covers;
  no_greater = one_more_each (λ k n. (m : ℕ) → AllByRecursion (IsCoveredBy m) c.args.rules.now → n ≤ m) c.loop-class.reaches.items c.push.new.self.items c.loop-class.class c.in_ok-greatest_reach_at.field-0 c.in_ok-push.ensures.items c.loop-class.invariant.long c.loop-class.invariant.no_greater
      c.in_ok-greatest_reach_at.ensures.no_greater;
}
