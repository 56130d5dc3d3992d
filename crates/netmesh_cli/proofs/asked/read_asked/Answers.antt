use Rattle.std.proofs.Common.{subst, map, string_bytes, IfOk}
use Rattle.std.specs.Prelude.{Result}
use Rattle.call_words.specs.declared.command.Command.{Command}
use Rattle.call_words.specs.declared.words_fault.WordsFault.{WordsFault}
use Rattle.call_words.specs.Commands.{IsCommand, task_of}
use Rattle.netmesh_cli.proofs.Readable.{call_in_range, view_in_range, few_squares}
use Rattle.netmesh_cli.proofs.asked.read_asked.Goals as goal

pub returns-in-Ok-Mesh-clause-range : goal.returns-in-Ok-Mesh-clause-range
returns-in-Ok-Mesh-clause-range c =
    let words = map string_bytes c.args.words.now in
    let read = subst (λ (r : Result Command WordsFault). IfOk r (λ command. IsCommand words (task_of command))) c.in-Ok-Mesh.is c.in_ok-call.ensures.command in
    call_in_range words c.in-Ok-Mesh.call (subst (λ (command : Command). IsCommand words (task_of command)) c.in-Ok-Mesh.field-0-is read)

pub returns-in-Ok-View-clause-range : goal.returns-in-Ok-View-clause-range
returns-in-Ok-View-clause-range c =
    let words = map string_bytes c.args.words.now in
    let read = subst (λ (r : Result Command WordsFault). IfOk r (λ command. IsCommand words (task_of command))) c.in-Ok-View.is c.in_ok-call.ensures.command in
    view_in_range words c.in-Ok-View.log.now c.in-Ok-View.domain c.in-Ok-View.step (subst (λ (command : Command). IsCommand words (task_of command)) c.in-Ok-View.field-0-is read)

pub returns-in-Ok-Gen-clause-range : goal.returns-in-Ok-Gen-clause-range
returns-in-Ok-Gen-clause-range c =
    let words = map string_bytes c.args.words.now in
    let read = subst (λ (r : Result Command WordsFault). IfOk r (λ command. IsCommand words (task_of command))) c.in-Ok-Gen.is c.in_ok-call.ensures.command in
    few_squares words c.in-Ok-Gen.squares c.in-Ok-Gen.parts (subst (λ (command : Command). IsCommand words (task_of command)) c.in-Ok-Gen.field-0-is read)
