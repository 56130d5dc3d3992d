use Rattle.std.proofs.Common.{rules, ◌≢◌, map, string_bytes}
use Rattle.clap.specs.Words.{found_of, kind_of}
use Rattle.clap.specs.declared.error.kind.ErrorKind.TheVariants.{OutOfMemory}
use Rattle.call_words.proofs.FormReads.{first_chars, form_taken, form_refused}
use Rattle.call_words.proofs.form.read_form.Goals as goal

pub returns-in-Ok : goal.returns-in-Ok
returns-in-Ok c = form_taken c.args.verb _ (map string_bytes c.args.words.now) (found_of c.in-Ok.matches) c.form_of.result c.in_ok-command.ensures (first_chars c.args.words.now) c.in-Ok.ensures.kinds (λ s. (c.in-Ok.ensures.matches s).0) (record { first = c.form_of.ensures.first; second = c.form_of.ensures.second; third = c.form_of.ensures.third; fourth = c.form_of.ensures.fourth; given = c.form_of.ensures.given })

pub returns-else-eq : goal.returns-else-eq
returns-else-eq c =
    let other : kind_of c.in-Err.error ≢ OutOfMemory = search rules in
    form_refused c.args.verb _ (map string_bytes c.args.words.now) (kind_of c.in-Err.error) c.in_ok-command.ensures (first_chars c.args.words.now) other c.in-Err.ensures.kinds
