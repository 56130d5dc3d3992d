use Rattle.std.proofs.Common.{rules, List, All, AllPairs, sym, subst}
use Rattle.std.specs.List.Sorted.{IsNonDecreasingBy}
use Rattle.std.proofs.lemmas.List.Sorted.{IsNonDecreasingBy-from_sort_by_key, All-permutation}
use Rattle.geom_check.specs.declared.spans.Span.{Span}
use Rattle.geom_check.specs.Spans.{IsSpan}
use Rattle.geom_check.proofs.Untangled.{AreUntangled, sorted_apart}
use Rattle.geom_check.proofs.spans.are_apart.Goals as goal

pub are_free-requires-clause-spans : goal.are_free-requires-clause-spans
are_free-requires-clause-spans c = subst (λ (ss : List Span). All IsSpan ss) (sym c.deref.ensures.value) (All-permutation IsSpan c.in_ok-spans.spans.items c.sort_unstable_by_key.new.self.items c.sort_unstable_by_key.ensures.permutation c.in_ok-spans.ensures.spans)

pub are_free-requires-clause-sorted : goal.are_free-requires-clause-sorted
are_free-requires-clause-sorted c = subst (λ (ss : List Span). IsNonDecreasingBy (λ s. s.left) ss) (sym c.deref.ensures.value) (IsNonDecreasingBy-from_sort_by_key (λ s. s.left) _ c.sort_unstable_by_key.ensures.sorted (λ a r q k. search rules))

pub returns : goal.returns
returns c = λ e. sorted_apart c.args.edges.now c.in_ok-spans.spans.items c.sort_unstable_by_key.new.self.items c.in_ok-spans.ensures.edges c.sort_unstable_by_key.ensures.permutation (subst (λ (ss : List Span). AllPairs AreUntangled ss) c.deref.ensures.value (c.are_free.ensures e))
