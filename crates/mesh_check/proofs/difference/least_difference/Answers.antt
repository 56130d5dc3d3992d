use Rattle.std.proofs.Common.{◌∙◌, List, [], ◌++◌, map, ap, sym, subst, arith}
use Rattle.std.proofs.lemmas.Int.{ints, to_z-of_z}
use Rattle.std.specs.List.Sorted.{IsPermutation}
use mir.Val.{SFits}
use mir.Syntax.{w64}
use Rattle.mesh_check.specs.declared.sides.Side.{Side}
use Rattle.mesh_check.specs.Balance.{element_sides, row_sides, turned, net_of, side_count, AreAscending}
use Rattle.mesh_check.proofs.SideCounts.{ascending, balances, nets_alike, least_apart}
use Rattle.mesh_check.proofs.difference.least_difference.Goals as goal

pub first_difference-requires-clause-first : goal.first_difference-requires-clause-first
first_difference-requires-clause-first c = subst AreAscending (sym c.deref-4.ensures.value) (ascending c.sort_unstable.new.self.items c.sort_unstable.ensures.sorted)

pub first_difference-requires-clause-second : goal.first_difference-requires-clause-second
first_difference-requires-clause-second c = subst AreAscending (sym c.deref-5.ensures.value) (ascending c.sort_unstable-2.new.self.items c.sort_unstable-2.ensures.sorted)

pub returns-in-Some-clause-some : goal.returns-in-Some-clause-some
returns-in-Some-clause-some c =
    let f : SFits w64 c.net.result = omega (arith, ints) in
    let g : SFits w64 c.net-in-Some.result = omega (arith, ints) in
    least_apart (element_sides c.args.elements.now) (row_sides c.args.rows.now) c.deref-4.result.now c.deref-5.result.now c.in-Some.side _ _
    (balances (element_sides c.args.elements.now) (row_sides c.args.rows.now) c.in_ok-all.all.items c.in_ok-turns.turns.items c.deref-4.result.now c.deref-5.result.now
    (c.in_ok-all.ensures ∙ ap (λ (ss : List Side). ss ++ map turned c.deref-2.result.now) (c.deref.ensures.value ∙ c.in_ok-sides.ensures) ∙ ap (λ (ss : List Side). element_sides c.args.elements.now ++ map turned ss) (c.deref-2.ensures.value ∙ c.in_ok-edges.ensures))
    (c.in_ok-turns.ensures ∙ ap (λ (ss : List Side). [] ++ map turned ss) c.deref-3.ensures.value)
    (subst (IsPermutation c.in_ok-all.all.items) (sym c.deref-4.ensures.value) c.sort_unstable.ensures.permutation) (subst (IsPermutation c.in_ok-turns.turns.items) (sym c.deref-5.ensures.value) c.sort_unstable-2.ensures.permutation))
    c.in-Some.ensures.some
    (to_z-of_z w64 c.net.result f ∙ c.net.ensures ∙ ap (net_of c.in-Some.side) (c.deref-in-Some.ensures.value ∙ c.in_ok-sides.ensures))
    (to_z-of_z w64 c.net-in-Some.result g ∙ c.net-in-Some.ensures ∙ ap (net_of c.in-Some.side) (c.deref-in-Some-2.ensures.value ∙ c.in_ok-edges.ensures))

pub returns-clause-none : goal.returns-clause-none
returns-clause-none c = λ s. nets_alike (element_sides c.args.elements.now) (row_sides c.args.rows.now) c.deref-4.result.now c.deref-5.result.now s
    (balances (element_sides c.args.elements.now) (row_sides c.args.rows.now) c.in_ok-all.all.items c.in_ok-turns.turns.items c.deref-4.result.now c.deref-5.result.now
    (c.in_ok-all.ensures ∙ ap (λ (ss : List Side). ss ++ map turned c.deref-2.result.now) (c.deref.ensures.value ∙ c.in_ok-sides.ensures) ∙ ap (λ (ss : List Side). element_sides c.args.elements.now ++ map turned ss) (c.deref-2.ensures.value ∙ c.in_ok-edges.ensures))
    (c.in_ok-turns.ensures ∙ ap (λ (ss : List Side). [] ++ map turned ss) c.deref-3.ensures.value)
    (subst (IsPermutation c.in_ok-all.all.items) (sym c.deref-4.ensures.value) c.sort_unstable.ensures.permutation) (subst (IsPermutation c.in_ok-turns.turns.items) (sym c.deref-5.ensures.value) c.sort_unstable-2.ensures.permutation))
    (ap (side_count s) c.in-None.ensures.none)
