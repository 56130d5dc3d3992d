use Rattle.std.proofs.Common.{ℤ, ◌-◌, All, sym, subst, arith, IfNone}
use lib.IntN.{◌+ℤ◌}
use Rattle.geom_check.specs.Risers.{is_chosen}
use Rattle.geom_check.specs.RiserOrder.{IsClear, IsSound, height_of}
use Rattle.geom_check.proofs.Levels.{clear_risers, next_sound, sound_all}
use Rattle.geom_check.proofs.strips.lowest_fault.Goals as goal

pub strip_fault-requires-clause-clear : goal.strip_fault-requires-clause-clear
strip_fault-requires-clause-clear c =
    subst (λ (z : ℤ). All (IsClear z c.strip_at-strip.result.high) c.args.risers.now) (sym c.strip_at-strip.ensures.low)
    (subst (λ (z : ℤ). All (IsClear (height_of c.args.levels.now (c.loop-i.i - 1)) z) c.args.risers.now) (sym c.strip_at-strip.ensures.high) (clear_risers c.args.levels.now c.loop-i.i c.args.risers.now c.requires.increasing (omega arith) (omega arith) c.requires.levels))

pub strip_fault-requires-clause-balanced : goal.strip_fault-requires-clause-balanced
strip_fault-requires-clause-balanced c = c.requires.balanced (c.strip_at-strip.result.low +ℤ c.strip_at-strip.result.high)

pub loop-i-preserved : goal.loop-i-preserved
loop-i-preserved c =
    next_sound c.args.levels.now (is_chosen c.args.chosen) c.args.risers.now c.loop-i.i c.strip_at-strip.result.low c.strip_at-strip.result.high c.strip_at-strip.ensures.low c.strip_at-strip.ensures.high
    (subst (λ o. IfNone o (IsSound c.strip_at-strip.result.low c.strip_at-strip.result.high (is_chosen c.args.chosen) c.args.risers.now)) c.in_default.is c.in_ok-left.ensures.none) c.loop-i.invariant

pub returns-clause-none : goal.returns-clause-none
returns-clause-none c = sound_all c.args.levels.now (is_chosen c.args.chosen) c.args.risers.now c.requires.increasing c.requires.levels (λ k h j. c.loop-i.invariant k h (omega arith))
