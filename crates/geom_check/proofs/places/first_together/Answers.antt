use Rattle.std.proofs.Common.{◌≢◌, ℕ, List, AllPairs, sym, subst}
use Rattle.std.specs.List.Sorted.{IsPermutation, IsNonDecreasingBy}
use Rattle.std.proofs.lemmas.List.Sorted.{IsNonDecreasingBy-from_sort}
use Rattle.geom_check.proofs.PlaceKeys.{places_by_keys}
use Rattle.geom_check.proofs.places.first_together.Goals as goal

pub are_different-requires : goal.are_different-requires
are_different-requires c = subst (λ (ks : List ℕ). IsNonDecreasingBy (λ n. n) ks) (sym c.deref.ensures.value) (IsNonDecreasingBy-from_sort (λ n. n) c.sort_unstable.new.self.items c.sort_unstable.ensures.sorted)

pub returns-then-are_different-clause-none : goal.returns-then-are_different-clause-none
returns-then-are_different-clause-none c = places_by_keys c.args.points.now c.sort_unstable.new.self.items (subst (λ (ks : List ℕ). IsPermutation ks c.sort_unstable.new.self.items) c.in_ok-keys.ensures c.sort_unstable.ensures.permutation)
    (subst (λ (ks : List ℕ). AllPairs (λ m n. m ≢ n) ks) c.deref.ensures.value (c.are_different.ensures c.if-are_different.true))
