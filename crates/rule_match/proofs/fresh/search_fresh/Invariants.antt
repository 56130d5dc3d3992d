use Rattle.std.proofs.Common.{◌≡◌, ℕ, List, [], ◌<◌, slice_index_or, Contains}
use Rattle.rule_match.specs.Walk.{IsSettled, IsAdvance, AreOf, HoldsFresh}
use Rattle.rule_match.proofs.fresh.search_fresh.Given as goal

-- each assignment with a fresh number at an earlier position is settled
abbrev pub invariant-loop-k : goal.invariant-loop-k
invariant-loop-k g l = record {
  regions : l.regions.items ≡ l.initial.regions.items;
  empty : l.chosen.items ≡ [];
  advance : IsAdvance (HoldsFresh (g.T.Trial.holds l.trial) l.fresh) (g.T.Trial.rank l.trial) l.initial.progress l.progress;
  settled : (b : List ℕ) (n : ℕ) → n < l.k → AreOf l.initial.regions.items b → g.T.Trial.fits l.trial b → Contains l.fresh (slice_index_or b n 0) →
      IsSettled (g.T.Trial.holds l.trial) (g.T.Trial.reasons l.trial) (g.T.Trial.rank l.trial) l.progress b;
}
