use Rattle.std.proofs.Common.{subst, sym, ◌∙◌}
use Rattle.std.specs.List.{All}
use Rattle.std.proofs.lemmas.List.Elements.{All-append, All-weaker}
use Rattle.grid_geom.specs.Bounds.{IsOnGrid}
use Rattle.rule_maps.specs.Frame.{IsInRange}
use Rattle.rule_match.proofs.front_trial.FrontTrialTrial.find.Goals as goal

pub worst_badness-requires-clause-on : goal.worst_badness-requires-clause-on
worst_badness-requires-clause-on c = subst (All IsOnGrid) (sym (c.as_slice-4.ensures ∙ c.joined-places.ensures)) (All-append IsOnGrid c.as_slice-2.result.now c.as_slice-3.result.now
    (subst (All IsOnGrid) (sym c.as_slice-2.ensures) (All-weaker (IsInRange c.args.self.now.base.frame) IsOnGrid (λ p h. h.on) c.mapped-mapped.result c.mapped-mapped.ensures.range))
    (subst (All IsOnGrid) (sym c.as_slice-3.ensures) c.in_ok-made.ensures.on))
