use Rattle.std.proofs.Common.{subst}
use Rattle.std.specs.List.Sorted.{IsPermutation}
use Rattle.wind_law.proofs.SortedEnds.{closed_by_sorting}
use Rattle.wind_law.proofs.balance.closed.Goals as goal

pub returns : goal.returns
returns c = closed_by_sorting c.args.edges.now c.sort_unstable.new.self.items c.sort_unstable-2.new.self.items c.eq.result
    (record { permutation = subst (λ l. IsPermutation l c.sort_unstable.new.self.items) c.in_ok-starts.ensures c.sort_unstable.ensures.permutation; ascends = c.sort_unstable.ensures.sorted })
    (record { permutation = subst (λ l. IsPermutation l c.sort_unstable-2.new.self.items) c.in_ok-ends.ensures c.sort_unstable-2.ensures.permutation; ascends = c.sort_unstable-2.ensures.sorted })
    c.eq.ensures
