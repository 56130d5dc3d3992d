use Rattle.std.proofs.Common.{◌≡◌, ◌+◌, ℕ, ◌≤◌, ◌<◌, Option, MatchOption, sym, ◌∙◌, subst, arith}
use lib.IntN.{◌+ℤ◌}
use Rattle.geom_check.specs.declared.risers.Passing.{Passing}
use Rattle.geom_check.specs.Gaps.{IsGapEnd}
use Rattle.geom_check.proofs.StripWinding.{passing_test}
use Rattle.geom_check.proofs.Nearest.{key_same, no_passing, end_none, end_kept, end_new}
use Rattle.geom_check.proofs.gaps.gap_end.Goals as goal
use Rattle.geom_check.proofs.gaps.gap_end.Goals.{then-does_pass+then-left-p+then-is_nearer, then-does_pass+else-left-p, else-left-p-via-then-left-p+else-is_nearer, else-left-p-via-else-left-p, else-does_pass}

pub loop-riser-init : goal.loop-riser-init
loop-riser-init c = end_none c.args.strip.now.low c.args.strip.now.high c.args.risers.now c.args.left.now

not_over : (a k l : ℕ) → l ≤ a → k ≡ l → a < k → ⊥
not_over a k l h e j = omega arith

pub loop-riser-preserved : goal.loop-riser-preserved
loop-riser-preserved c = elim c.if-does_pass.branch [
  | else-does_pass w ↦
      subst (λ (o : Option Passing). IsGapEnd c.args.strip.now.low c.args.strip.now.high c.args.risers.now (c.loop-riser.riser-index + 1) c.args.left.now o) (sym w.nearest-is)
      (end_kept c.args.strip.now.low c.args.strip.now.high c.args.risers.now c.loop-riser.riser-index _ c.args.left.now c.loop-riser.nearest (omega arith) c.loop-riser.invariant
      (λ key p k l. absurd (no_passing c.args.strip.now.low c.args.strip.now.high _ (sym c.does_pass.ensures ∙ w.if-does_pass.false) p)))
  | then-does_pass+then-left-p+then-is_nearer w ↦
      subst (λ (o : Option Passing). IsGapEnd c.args.strip.now.low c.args.strip.now.high c.args.risers.now (c.loop-riser.riser-index + 1) c.args.left.now o) (sym w.nearest-is)
      (end_new c.args.strip.now.low c.args.strip.now.high c.args.risers.now c.loop-riser.riser-index _ c.args.left.now w.passing_at-p.result c.loop-riser.nearest (omega arith) c.loop-riser.invariant w.passing_at-p.ensures.riser
      (passing_test c.args.strip.now.low c.args.strip.now.high _ (sym c.does_pass.ensures ∙ w.if-does_pass.true)) w.passing_at-p.ensures.key w.if-left-p.true (w.is_nearer.ensures.nearer w.if-is_nearer.true))
  | then-does_pass+else-left-p w ↦
      subst (λ (o : Option Passing). IsGapEnd c.args.strip.now.low c.args.strip.now.high c.args.risers.now (c.loop-riser.riser-index + 1) c.args.left.now o) (sym w.nearest-is)
      (end_kept c.args.strip.now.low c.args.strip.now.high c.args.risers.now c.loop-riser.riser-index _ c.args.left.now c.loop-riser.nearest (omega arith) c.loop-riser.invariant
      (λ key p k l. elim w.else-left-p.branch [
        | else-left-p-via-then-left-p+else-is_nearer v ↦
            subst (λ (x : ℕ). MatchOption c.loop-riser.nearest ⊥ (λ n. n.key ≤ x)) (key_same (c.args.strip.now.low +ℤ c.args.strip.now.high) _ w.passing_at-p.result.key key w.passing_at-p.ensures.key k) (v.is_nearer.ensures.farther v.if-is_nearer.false)
        | else-left-p-via-else-left-p v ↦ absurd (not_over c.args.left.now.key key w.passing_at-p.result.key v.if-left-p.false (key_same (c.args.strip.now.low +ℤ c.args.strip.now.high) _ key w.passing_at-p.result.key k w.passing_at-p.ensures.key) l)
      ]))
]
