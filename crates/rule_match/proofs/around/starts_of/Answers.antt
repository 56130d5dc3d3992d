use native.Mathlib.Omega.{arith}
use Rattle.std.proofs.Common.{◌≡◌, ◌∙◌, sym, ap, subst, ℕ, List, map}
use Rattle.std.proofs.Math.Dec.{eqb}
use Rattle.std.specs.List.{dedup, Contains}
use Rattle.std.specs.List.Sorted.{IsStrictlyIncreasing}
use Rattle.std.proofs.lemmas.List.{take_all}
use Rattle.std.proofs.lemmas.List.Filters.{dedup_is}
use Rattle.std.proofs.lemmas.List.Kept.{Contains-dedup_nat, Contains-from_dedup}
use Rattle.std.proofs.lemmas.List.Sorted.{Contains-permutation, IsPermutation-sym}
use Rattle.std.proofs.lemmas.Map.Keys.{IsStrictlyIncreasing-dedup}
use Rattle.rule_match.proofs.around.starts_of.Goals as goal

pub returns-clause-rising : goal.returns-clause-rising
returns-clause-rising c =
    let e : c.dedup.new.self.items ≡ dedup eqb c.sort_unstable.new.self.items = dedup_is eqb c.sort_unstable.new.self.items c.dedup.new.self.items c.dedup.ensures.filtered in
    subst (λ (ns : List ℕ). IsStrictlyIncreasing ns) (sym e) (IsStrictlyIncreasing-dedup c.sort_unstable.new.self.items c.sort_unstable.ensures.sorted)

pub returns-clause-starts : goal.returns-clause-starts
returns-clause-starts c = λ n.
    let e : c.dedup.new.self.items ≡ dedup eqb c.sort_unstable.new.self.items = dedup_is eqb c.sort_unstable.new.self.items c.dedup.new.self.items c.dedup.ensures.filtered in
    let all : c.loop-line.numbers.items ≡ map (λ (line : ℕ × ℕ). line.0) c.args.lines.now = c.loop-line.invariant ∙ ap (map (λ (line : ℕ × ℕ). line.0)) (take_all c.loop-line.line-index c.args.lines.now (omega (arith, c.loop-line-test.false))) in (
      λ h. subst (λ (ns : List ℕ). Contains ns n) all
          (Contains-permutation c.sort_unstable.new.self.items c.loop-line.numbers.items n (IsPermutation-sym c.loop-line.numbers.items c.sort_unstable.new.self.items c.sort_unstable.ensures.permutation)
          (Contains-from_dedup eqb c.sort_unstable.new.self.items n (subst (λ (ns : List ℕ). Contains ns n) e h))),
      λ h. subst (λ (ns : List ℕ). Contains ns n) (sym e)
          (Contains-dedup_nat c.sort_unstable.new.self.items n (Contains-permutation c.loop-line.numbers.items c.sort_unstable.new.self.items n c.sort_unstable.ensures.permutation (subst (λ (ns : List ℕ). Contains ns n) (sym all) h))),
    )
