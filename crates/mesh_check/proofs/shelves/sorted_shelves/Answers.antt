use Rattle.std.proofs.Common.{ℕ, List, length, ap, subst, ◌∙◌}
use Rattle.std.specs.List.Sorted.{IsPermutation}
use Rattle.mesh_check.proofs.Paired.{times_permuted}
use Rattle.mesh_check.proofs.Shelved.{all_put, both_added, times_back}
use Rattle.mesh_check.proofs.shelves.sorted_shelves.Goals as goal

pub returns : goal.returns
returns c = λ k h.
    let keys = c.put_rows.new.shelves.keys in
    times_back k keys.len c.sort_shelves.new.keys keys.items keys.ok.0 (c.sort_shelves.ensures.long ∙ ap length c.deref_mut.ensures.value)
    ∙ times_permuted k keys.items c.sort_shelves.new.keys (subst (λ (ns : List ℕ). IsPermutation ns c.sort_shelves.new.keys) c.deref_mut.ensures.value c.sort_shelves.ensures.kept)
    ∙ all_put _ c.in_ok-keys.keys.items keys.items _ (c.in_ok-keys.ensures.items_if_clones_equal (λ y same. same))
    (both_added _ _ c.in_ok-keys.keys.items c.put_elements.new.shelves.keys.items keys.items (c.put_elements.ensures c.if-not-put_elements.false) (c.put_rows.ensures c.if-not-put_rows.false)) k h
