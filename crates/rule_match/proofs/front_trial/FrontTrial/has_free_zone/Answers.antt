use Rattle.std.proofs.Common.{subst}
use Rattle.std.specs.Prelude.{IfSome}
use Rattle.free_zone.specs.InTheWay.{mapping, IsLineInWay, IsLeast}
use Rattle.rule_match.proofs.Excused.{way_noted}
use Rattle.rule_match.proofs.front_trial.FrontTrial.has_free_zone.Goals as goal

pub returns-in_ok-note-in-Some-clause-in_way : goal.returns-in_ok-note-in-Some-clause-in_way
returns-in_ok-note-in-Some-clause-in_way c = λ no. way_noted c.args.self.now c.base.result.now c.front.result.now c.rule.result.now c.args.zone.now c.args.numbers.now c.note.new.notes.items c.in-Some.line
    c.base.ensures.value c.front.ensures.value c.rule.ensures.value
    (subst (λ o. IfSome o (IsLeast (IsLineInWay c.args.zone.now (mapping c.front.result.now c.rule.result.now c.args.numbers.now)))) c.in-Some.is c.in_ok-line_in_way.ensures.least).is
    c.in_ok-note-in-Some.ensures.noted
