use native.Mathlib.Omega.{arith}
use Rattle.rule_match.proofs.Covered.{next_region, covered}
use Rattle.rule_match.proofs.trying.Trying.regions.Goals as goal

pub loop-position-preserved : goal.loop-position-preserved
loop-position-preserved c = record {
  counted = omega (arith, c.in_ok-push.ensures.len, c.loop-position.invariant.counted);
  regions = next_region c.args.self.now c.loop-position.position c.loop-position.regions.items c.push.new.self.items c.in_ok-region.field-0 c.in_ok-push.ensures.items c.loop-position.invariant.counted
      (omega (arith, c.loop-position-test.true, c.count-position-end.ensures)) c.loop-position.invariant.regions c.in_ok-region.ensures;
}

pub returns-clause-covers : goal.returns-clause-covers
returns-clause-covers c = λ b l h. covered c.args.self.now c.loop-position.regions.items b c.loop-position.invariant.regions
    (omega (arith, c.loop-position.invariant.counted, c.loop-position-test.false, c.count-position-end.ensures)) l h
