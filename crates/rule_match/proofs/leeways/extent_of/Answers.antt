use Rattle.std.proofs.Common.{◌≡◌, ◌<◌, ◌≤◌, ◌+◌, ◌*◌, ◌/◌, ℕ, arith, subst, sym, ap, ◌∙◌}
use Rattle.rule_match.proofs.Tolerated.{below_root, lesser}
use Rattle.rule_match.proofs.leeways.extent_of.Goals as goal

pub returns-then-square-clause-beyond : goal.returns-then-square-clause-beyond
returns-then-square-clause-beyond c = λ d h.
    let bound : c.four_times.result ≡ 4 * c.args.weight * ((5 + 3 * c.args.class) * 100000000000) = c.four_times.ensures ∙ ap (λ (m : ℕ). 4 * c.args.weight * m) c.greatest_measure.ensures.value in
    let above : c.four_times.result / c.args.determinant < c.above_root.result * c.above_root.result = omega (arith, c.above_root.ensures.above, c.if-square.true) in
    lesser c.above_root.result c.args.ranged c.min.result d c.min.ensures
    (below_root d c.above_root.result c.args.determinant c.four_times.result c.requires.positive above (subst (λ (b : ℕ). d * d * c.args.determinant ≤ b) (sym bound) h))
