use Rattle.std.proofs.Common.{ap, map, refl, ◌∙◌}
use Rattle.std.proofs.lemmas.Result.{err_from_is_err_and}
use Rattle.netmesh_cli.specs.Jobs.{job_of, made_of, put_of}
use Rattle.netmesh_cli.specs.Served.{at_make}
use Rattle.netmesh_cli.proofs.Courses.{exit_at_put, all_put, exit_at_answer, written_answer, unwritten, make_not_out, puts_not_out, served, no_puts, none_refused}
use Rattle.netmesh_cli.proofs.serve.serve.Goals as goal

pub returns-in_err-made-clause-course : goal.returns-in_err-made-clause-course
returns-in_err-made-clause-course g c =
    let p = err_from_is_err_and c.from_residual.result c.from_residual.ensures.1 in
    rw (p.1, p.2) (at_make c.make.ensures.held c.in_err-made.ensures.refused)

pub returns-in_err-made-clause-written : goal.returns-in_err-made-clause-written
returns-in_err-made-clause-written g c =
    let p = err_from_is_err_and c.from_residual.result c.from_residual.ensures.1 in
    rw (p.1, p.2) (unwritten _ _ _ (make_not_out (job_of c.args.asked.now) _ _ _ c.in_err-made.ensures.refused))

pub returns-in_err-put_all-clause-course : goal.returns-in_err-put_all-clause-course
returns-in_err-put_all-clause-course g c =
    let p = err_from_is_err_and c.from_residual-in_err-put_all.result c.from_residual-in_err-put_all.ensures.1 in
    rw (p.1, p.2) (exit_at_put (job_of c.args.asked.now) (made_of c.in_ok-made.made) (map put_of c.as_slice.result.now) _ _ _ _ _ _ c.make.ensures.held c.make.ensures.rises c.in_ok-made.ensures.made c.in_ok-made.ensures.puts (ap (map put_of) c.as_slice.ensures.value) c.in_err-put_all.ensures.refused)

pub returns-in_err-put_all-clause-written : goal.returns-in_err-put_all-clause-written
returns-in_err-put_all-clause-written g c =
    let p = err_from_is_err_and c.from_residual-in_err-put_all.result c.from_residual-in_err-put_all.ensures.1 in
    rw (p.1, p.2) (unwritten _ _ _ (puts_not_out _ _ _ _ c.in_err-put_all.ensures.refused))

pub returns-in_err-put_all-clause-puts_nothing : goal.returns-in_err-put_all-clause-puts_nothing
returns-in_err-put_all-clause-puts_nothing g c = λ none. absurd (none_refused (job_of c.args.asked.now) (map put_of c.as_slice.result.now) (made_of c.in_ok-made.made).puts _ _ _ c.in_ok-made.ensures.puts (ap (map put_of) c.as_slice.ensures.value) none c.in_err-put_all.ensures.refused)

pub returns-in_err-answer-clause-course : goal.returns-in_err-answer-clause-course
returns-in_err-answer-clause-course g c =
    let p = err_from_is_err_and c.from_residual-in_err-answer.result c.from_residual-in_err-answer.ensures.1 in
    let put = all_put (job_of c.args.asked.now) (made_of c.in_ok-made.made) (map put_of c.as_slice.result.now) _ _ _ c.make.ensures.held c.in_ok-made.ensures.made (ap (map put_of) c.as_slice.ensures.value) c.in_ok-put_all.ensures.put in
    rw (p.1, p.2) (exit_at_answer (job_of c.args.asked.now) (made_of c.in_ok-made.made) _ _ _ _ _ put c.in_err-answer.ensures.refused)

pub returns-in_err-answer-clause-written : goal.returns-in_err-answer-clause-written
returns-in_err-answer-clause-written g c =
    let p = err_from_is_err_and c.from_residual-in_err-answer.result c.from_residual-in_err-answer.ensures.1 in
    rw (p.1, p.2) (written_answer (job_of c.args.asked.now) (made_of c.in_ok-made.made) _ _ _ c.deref.result.now _ c.deref.ensures.value c.in_ok-made.ensures.made c.in_err-answer.ensures.written)

pub returns-in_err-answer-clause-puts_nothing : goal.returns-in_err-answer-clause-puts_nothing
returns-in_err-answer-clause-puts_nothing g c = λ none. c.put_all.ensures.none (c.as_slice.ensures.value ∙ no_puts _ _ c.in_ok-made.ensures.puts none) ∙ c.make.ensures.held

pub returns-clause-served : goal.returns-clause-served
returns-clause-served g c =
    let put = all_put (job_of c.args.asked.now) (made_of c.in_ok-made.made) (map put_of c.as_slice.result.now) _ _ _ c.make.ensures.held c.in_ok-made.ensures.made (ap (map put_of) c.as_slice.ensures.value) c.in_ok-put_all.ensures.put in
    served (job_of c.args.asked.now) (made_of c.in_ok-made.made) _ _ _ _ _ c.deref.result.now refl c.deref.ensures.value put c.in_ok-answer.ensures.taken

pub returns-clause-puts_nothing : goal.returns-clause-puts_nothing
returns-clause-puts_nothing g c = λ none. c.put_all.ensures.none (c.as_slice.ensures.value ∙ no_puts _ _ c.in_ok-made.ensures.puts none) ∙ c.make.ensures.held
