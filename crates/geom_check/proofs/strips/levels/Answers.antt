use Rattle.std.proofs.Common.{ℕ, List, length, ◌≡◌, sym, subst}
use Rattle.std.specs.List.{dedup}
use Rattle.std.specs.List.Sorted.{IsStrictlyIncreasing}
use Rattle.std.proofs.Math.Dec.{eqb}
use Rattle.std.proofs.lemmas.List.Filters.{dedup_is}
use Rattle.std.proofs.lemmas.Map.Keys.{IsStrictlyIncreasing-dedup}
use Rattle.geom_check.specs.RiserOrder.{IsLevelsOf}
use Rattle.geom_check.proofs.LevelLists.{levels_sorted, levels_dedup}
use Rattle.geom_check.proofs.strips.levels.Goals as goal

pub returns-clause-increasing : goal.returns-clause-increasing
returns-clause-increasing c =
    let e : c.dedup.new.self.items ≡ dedup eqb c.sort_unstable.new.self.items = dedup_is eqb c.sort_unstable.new.self.items c.dedup.new.self.items c.dedup.ensures.filtered in
    subst (λ (ns : List ℕ). IsStrictlyIncreasing ns) (sym e) (IsStrictlyIncreasing-dedup c.sort_unstable.new.self.items c.sort_unstable.ensures.sorted)

pub returns-clause-levels : goal.returns-clause-levels
returns-clause-levels c =
    let e : c.dedup.new.self.items ≡ dedup eqb c.sort_unstable.new.self.items = dedup_is eqb c.sort_unstable.new.self.items c.dedup.new.self.items c.dedup.ensures.filtered in
    subst (λ (ns : List ℕ). IsLevelsOf c.args.edges.now (length c.args.edges.now) ns) (sym e)
    (levels_dedup c.args.edges.now (length c.args.edges.now) c.sort_unstable.new.self.items (levels_sorted c.args.edges.now (length c.args.edges.now) c.in_ok-levels.levels.items c.sort_unstable.new.self.items c.sort_unstable.ensures.permutation c.in_ok-levels.ensures))
