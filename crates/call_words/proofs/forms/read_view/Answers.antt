use Rattle.std.proofs.Common.{map, string_bytes}
use Rattle.std.proofs.lemmas.Result.{err_from_is_err_and}
use Rattle.call_words.specs.declared.command.Verb.TheVariants as verbs
use Rattle.call_words.proofs.Calling.{refused_alone, view_calls, view_domain, view_step}
use Rattle.call_words.proofs.forms.read_view.Goals as goal

pub returns-in_err-log-clause-fault : goal.returns-in_err-log-clause-fault
returns-in_err-log-clause-fault c = let p = err_from_is_err_and c.from_residual.result c.from_residual.ensures.1 in rw (p.1, p.2) (refused_alone verbs.View (map string_bytes c.args.words.now) _ (λ given h. h) c.in_err-log.ensures.fault.0 c.in_err-log.ensures.fault.1)

pub returns-in_err-domain-clause-fault : goal.returns-in_err-domain-clause-fault
returns-in_err-domain-clause-fault c = let p = err_from_is_err_and c.from_residual-in_err-domain.result c.from_residual-in_err-domain.ensures.1 in rw (p.1, p.2) (view_domain (map string_bytes c.args.words.now) _ c.in_ok-log.log.now c.in_ok-log.domain.now c.in_ok-log.step.now c.in_ok-log.ensures.ok c.in_err-domain.ensures.fault.0 c.in_err-domain.ensures.fault.1)

pub returns-in_err-step-clause-fault : goal.returns-in_err-step-clause-fault
returns-in_err-step-clause-fault c = let p = err_from_is_err_and c.from_residual-in_err-step.result c.from_residual-in_err-step.ensures.1 in rw (p.1, p.2) (view_step (map string_bytes c.args.words.now) _ c.in_ok-log.log.now c.in_ok-log.domain.now c.in_ok-log.step.now c.in_ok-log.ensures.ok c.in_err-step.ensures.fault.0 c.in_err-step.ensures.fault.1)

pub returns-clause-ok : goal.returns-clause-ok
returns-clause-ok c = view_calls (map string_bytes c.args.words.now) c.in_ok-log.log.now c.in_ok-log.domain.now c.in_ok-log.step.now c.in_ok-domain.domain c.in_ok-step.step c.in_ok-log.ensures.ok c.in_ok-domain.ensures.ok c.in_ok-step.ensures.ok
