use Rattle.std.proofs.Common.{List, Option, None, Some, refl, subst, sym}
use Rattle.std.specs.Prelude.{IfNone}
use Rattle.front_chain.specs.Front.{state_of}
use Rattle.rule_match.specs.declared.application.Application.{Application}
use Rattle.rule_match.specs.Refused.{IsRefusedBy}
use Rattle.rule_match.specs.Walk.{BeginsWith}
use Rattle.rule_match.specs.declared.progress.Note.{Note}
use Rattle.rule_match.proofs.Advances.{begins_same}
use Rattle.rule_match.proofs.OverRules.{refused_after}
use Rattle.rule_match.proofs.least.best_noted.Goals as goal

-- where the notes refuse the line, so do those that begin with what was noted before
pub returns-clause-noted : goal.returns-clause-noted
returns-clause-noted g c = by c.in_ok-found.found (c.in_ok-found.ensures.noted refl)
  where
    by : (o : Option Application) → IfNone o (IsRefusedBy c.args.sizes.now (state_of c.args.front.now) c.args.rules.now c.args.line c.args.class c.search_line.new.progress.notes.items) →
        IfNone o (IsRefusedBy c.args.sizes.now (state_of c.args.front.now) c.args.rules.now c.args.line c.args.class c.append.new.self.items)
    by None r = subst (IsRefusedBy c.args.sizes.now (state_of c.args.front.now) c.args.rules.now c.args.line c.args.class) (sym c.in_ok-append.ensures.items)
        (refused_after c.args.sizes.now (state_of c.args.front.now) c.args.rules.now c.args.line c.args.class c.args.notes.now.items c.search_line.new.progress.notes.items r)
    by (Some a) r = tt

pub returns-in_err-append-clause-kept : goal.returns-in_err-append-clause-kept
returns-in_err-append-clause-kept g c = subst (λ (ns : List Note). BeginsWith ns c.args.notes.now.items) (sym c.in_err-append.ensures.items) (begins_same c.args.notes.now.items)
