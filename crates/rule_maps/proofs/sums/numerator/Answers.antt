use Rattle.std.proofs.Common.{◌∙◌, ap, sym, ℤ, pos, ◌+ℤ◌, ◌*ℤ◌, ◌≤ℤ◌, subst}
use Rattle.rule_maps.specs.declared.frame.TheConstants.{UNIT}
use Rattle.rule_maps.proofs.Frames.{frame_bounds}
use Rattle.rule_maps.proofs.Summing.{scaled_fits, moved_fits, numerator_fits, numerator_back, numerator_within}
use Rattle.rule_maps.proofs.sums.numerator.Goals as goal

pub overflow_mul-result : goal.overflow_mul-result
overflow_mul-result c = scaled_fits c.args.constant.now c.q.result c.requires.constant (subst (λ (q : ℤ). pos 1 ≤ℤ q) (sym c.q.ensures.value) (frame_bounds c.args.f.now c.q.ensures.frame).unit_least) (subst (λ (q : ℤ). q ≤ℤ UNIT) (sym c.q.ensures.value) (frame_bounds c.args.f.now c.q.ensures.frame).unit_greatest)

pub overflow_mul-result-2 : goal.overflow_mul-result-2
overflow_mul-result-2 c = moved_fits c.moving.result c.moving.ensures.small

pub overflow_add-result : goal.overflow_add-result
overflow_add-result c = numerator_fits c.args.constant.now c.q.result c.moving.result c.requires.constant (subst (λ (q : ℤ). pos 1 ≤ℤ q) (sym c.q.ensures.value) (frame_bounds c.args.f.now c.q.ensures.frame).unit_least) (subst (λ (q : ℤ). q ≤ℤ UNIT) (sym c.q.ensures.value) (frame_bounds c.args.f.now c.q.ensures.frame).unit_greatest) c.moving.ensures.small

pub returns-clause-value : goal.returns-clause-value
returns-clause-value c = numerator_back c.args.constant.now c.q.result c.moving.result c.requires.constant (subst (λ (q : ℤ). pos 1 ≤ℤ q) (sym c.q.ensures.value) (frame_bounds c.args.f.now c.q.ensures.frame).unit_least) (subst (λ (q : ℤ). q ≤ℤ UNIT) (sym c.q.ensures.value) (frame_bounds c.args.f.now c.q.ensures.frame).unit_greatest) c.moving.ensures.small
    ∙ ap (λ (q : ℤ). c.args.constant.now *ℤ q +ℤ pos 10000 *ℤ c.moving.result) c.q.ensures.value ∙ ap (λ (m : ℤ). c.args.constant.now *ℤ c.args.f.now.q +ℤ pos 10000 *ℤ m) c.moving.ensures.value

pub returns-clause-small : goal.returns-clause-small
returns-clause-small c = rw (numerator_back c.args.constant.now c.q.result c.moving.result c.requires.constant (subst (λ (q : ℤ). pos 1 ≤ℤ q) (sym c.q.ensures.value) (frame_bounds c.args.f.now c.q.ensures.frame).unit_least) (subst (λ (q : ℤ). q ≤ℤ UNIT) (sym c.q.ensures.value) (frame_bounds c.args.f.now c.q.ensures.frame).unit_greatest) c.moving.ensures.small)
    (numerator_within c.args.constant.now c.q.result c.moving.result c.requires.constant (subst (λ (q : ℤ). pos 1 ≤ℤ q) (sym c.q.ensures.value) (frame_bounds c.args.f.now c.q.ensures.frame).unit_least) (subst (λ (q : ℤ). q ≤ℤ UNIT) (sym c.q.ensures.value) (frame_bounds c.args.f.now c.q.ensures.frame).unit_greatest) c.moving.ensures.small)
