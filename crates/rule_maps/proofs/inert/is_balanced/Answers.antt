use Rattle.std.proofs.Common.{◌≡◌, ◌∙◌, ap, subst, List, ℕ, ◌++◌, flat_map}
use Rattle.std.specs.List.{AllByRecursion}
use Rattle.rule_maps.specs.Inert.{sides, turned_leaving}
use Rattle.rule_maps.proofs.Balance.{even, pairs_of, balanced_of, even_of}
use Rattle.rule_maps.proofs.inert.is_balanced.Goals as goal

-- what `is_even` says of the pairs that were listed
listed : {ps qs : List (ℕ × ℕ)} → ps ≡ qs → {b : Type 0} → (b → AllByRecursion (λ p. even ps p.0 p.1) ps) × (AllByRecursion (λ p. even ps p.0 p.1) ps → b) → (b → AllByRecursion (λ p. even qs p.0 p.1) qs) × (AllByRecursion (λ p. even qs p.0 p.1) qs → b)
listed {ps} {qs} e {b} h = subst (λ (xs : List (ℕ × ℕ)). (b → AllByRecursion (λ p. even xs p.0 p.1) xs) × (AllByRecursion (λ p. even xs p.0 p.1) xs → b)) e h

pub returns : goal.returns
returns c = let h = listed {qs = pairs_of c.args.rule.now} (c.deref.ensures.value ∙ c.in_ok-push_leaving.ensures ∙ ap (λ (ps : List (ℕ × ℕ)). ps ++ turned_leaving c.args.rule.now.lines) (c.in_ok-push_joining.ensures ∙ ap (λ (ps : List (ℕ × ℕ)). ps ++ c.args.rule.now.new_lines) (c.in_ok-push_elements.ensures ∙ ap (λ (ps : List (ℕ × ℕ)). ps ++ flat_map sides c.args.rule.now.elements) c.new-pairs.ensures.items))) c.is_even.ensures in
    (λ t. balanced_of c.args.rule.now (h.0 t), λ b. h.1 (even_of c.args.rule.now b))
