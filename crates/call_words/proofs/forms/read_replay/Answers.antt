use Rattle.std.proofs.Common.{map, string_bytes}
use Rattle.std.proofs.lemmas.Result.{err_from_is_err_and}
use Rattle.call_words.specs.declared.command.Verb.TheVariants as verbs
use Rattle.call_words.proofs.Calling.{refused_alone, replay_calls}
use Rattle.call_words.proofs.forms.read_replay.Goals as goal

pub returns-in_err-geometry-clause-fault : goal.returns-in_err-geometry-clause-fault
returns-in_err-geometry-clause-fault c = let p = err_from_is_err_and c.from_residual.result c.from_residual.ensures.1 in rw (p.1, p.2) (refused_alone verbs.Replay (map string_bytes c.args.words.now) _ (λ given h. h) c.in_err-geometry.ensures.fault.0 c.in_err-geometry.ensures.fault.1)

pub returns-clause-ok : goal.returns-clause-ok
returns-clause-ok c = replay_calls (map string_bytes c.args.words.now) _ _ _ c.in_ok-geometry.ensures.ok
