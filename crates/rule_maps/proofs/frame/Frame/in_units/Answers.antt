use lib.IntN.{pos, ◌*ℤ◌}
use mathlib.Core.Path.{ap, sym, ◌∙◌, subst}
use native.Mathlib.Omega.{arith}
use Rattle.std.proofs.lemmas.Int.{ints}
use Rattle.rule_maps.specs.declared.frame.TheConstants.{TURN}
use Rattle.grid_geom.specs.Bounds.{IsWithin}
use Rattle.rule_maps.specs.Frame.{LocalFrame, in_units}
use Rattle.rule_maps.proofs.Numbers.{within_more}
use Rattle.rule_maps.proofs.Frames.{frame_bounds, HasBounds, units_within, units_inner, unit_inner, in_units_code}
use Rattle.rule_maps.proofs.frame.Frame.in_units.Goals as goal

pub round_div-requires-clause-n_small : goal.round_div-requires-clause-n_small
round_div-requires-clause-n_small c = rw (units_inner c.args.top.now c.requires.fits) (within_more (pos 10000 *ℤ TURN) (pos 42535295865117307932921825928971026432) (pos 10000 *ℤ c.args.top.now) (omega (arith, ints)) (units_within c.args.top.now c.requires.fits))

pub round_div-requires-clause-d_positive : goal.round_div-requires-clause-d_positive
round_div-requires-clause-d_positive c = let b : HasBounds _ = frame_bounds _ c.self.invariant in rw (unit_inner _ b) (omega (arith, ints, b.unit_least))

pub overflow_cast-result : goal.overflow_cast-result
overflow_cast-result c = (in_units_code _ (frame_bounds _ c.self.invariant) c.args.top.now c.round_div.result c.requires.fits (subst (λ (g : LocalFrame). IsWithin (pos 13 *ℤ g.q) c.args.top.now) (sym c.self.view_is) c.requires.small) c.round_div.ensures.least c.round_div.ensures.greatest).fits

pub returns : goal.returns
returns c = (in_units_code _ (frame_bounds _ c.self.invariant) c.args.top.now c.round_div.result c.requires.fits (subst (λ (g : LocalFrame). IsWithin (pos 13 *ℤ g.q) c.args.top.now) (sym c.self.view_is) c.requires.small) c.round_div.ensures.least c.round_div.ensures.greatest).value ∙ ap (λ (g : LocalFrame). in_units (record { top = c.args.top.now; bottom = g.q })) c.self.view_is
