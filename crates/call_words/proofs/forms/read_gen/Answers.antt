use Rattle.std.proofs.Common.{map, string_bytes}
use Rattle.std.proofs.lemmas.Result.{err_from_is_err_and}
use Rattle.call_words.specs.declared.command.Verb.TheVariants as verbs
use Rattle.call_words.proofs.Calling.{refused_alone, gen_calls, gen_side, gen_part}
use Rattle.call_words.proofs.forms.read_gen.Goals as goal

pub returns-in_err-squares-clause-fault : goal.returns-in_err-squares-clause-fault
returns-in_err-squares-clause-fault c = let p = err_from_is_err_and c.from_residual.result c.from_residual.ensures.1 in rw (p.1, p.2) (refused_alone verbs.Gen (map string_bytes c.args.words.now) _ (λ given h. h) c.in_err-squares.ensures.fault.0 c.in_err-squares.ensures.fault.1)

pub returns-in_err-squares-2-clause-fault : goal.returns-in_err-squares-2-clause-fault
returns-in_err-squares-2-clause-fault c = let p = err_from_is_err_and c.from_residual-in_err-squares-2.result c.from_residual-in_err-squares-2.ensures.1 in rw (p.1, p.2) (gen_side (map string_bytes c.args.words.now) _ c.in_ok-squares.squares.now c.in_ok-squares.parts.now c.in_ok-squares.ensures.ok c.in_err-squares-2.ensures.fault.0 c.in_err-squares-2.ensures.fault.1)

pub returns-in_err-parts-clause-fault : goal.returns-in_err-parts-clause-fault
returns-in_err-parts-clause-fault c = let p = err_from_is_err_and c.from_residual-in_err-parts.result c.from_residual-in_err-parts.ensures.1 in rw (p.1, p.2) (gen_part (map string_bytes c.args.words.now) _ c.in_ok-squares.squares.now c.in_ok-squares.parts.now c.in_ok-squares.ensures.ok c.in_err-parts.ensures.fault.0 c.in_err-parts.ensures.fault.1)

pub returns-clause-ok : goal.returns-clause-ok
returns-clause-ok c = gen_calls (map string_bytes c.args.words.now) c.in_ok-squares.squares.now c.in_ok-squares.parts.now c.in_ok-squares-2.squares c.in_ok-parts.parts c.in_ok-squares.ensures.ok c.in_ok-squares-2.ensures.ok c.in_ok-parts.ensures.ok
