use Rattle.netmesh_cli.specs.Jobs.{job_of}
use Rattle.netmesh_cli.proofs.Exactly.{refused_exactly, served_exactly}
use Rattle.netmesh_cli.proofs.Tops.{refused_answers, refused_cause, served_answers, if_refused, line_after}
use Rattle.netmesh_cli.proofs.top.answered.Goals as goal

pub returns-in-Ok-clause-answers : goal.returns-in-Ok-clause-answers
returns-in-Ok-clause-answers g c = served_answers (job_of c.args.asked.now) c.requires.apart c.in-Ok.outcome _ _ _ _ c.in-Ok.ensures.ending c.in-Ok.ensures.served c.serve.ensures.puts_nothing

pub returns-in-Ok-clause-exactly : goal.returns-in-Ok-clause-exactly
returns-in-Ok-clause-exactly g c = served_exactly (job_of c.args.asked.now) c.in-Ok.outcome _ _ _ _ _ _ c.in-Ok.ensures.ending c.in-Ok.ensures.served

pub returns-in-Ok-clause-line : goal.returns-in-Ok-clause-line
returns-in-Ok-clause-line g c = if_refused (job_of c.args.asked.now) c.in-Ok.outcome _ c.in-Ok.ensures.ending

pub returns-in-Err-clause-answers : goal.returns-in-Err-clause-answers
returns-in-Err-clause-answers g c = refused_answers (job_of c.args.asked.now) c.requires.apart _ _ _ _ _ _ _ c.tell.ensures.rises c.in-Err.ensures.course c.in-Err.ensures.written c.serve.ensures.puts_nothing c.tell.ensures.told

pub returns-in-Err-clause-exactly : goal.returns-in-Err-clause-exactly
returns-in-Err-clause-exactly g c = refused_exactly (job_of c.args.asked.now) _ _ _ _ (refused_cause (job_of c.args.asked.now) _ _ _ _ _ _ _ c.tell.ensures.rises c.in-Err.ensures.course c.tell.ensures.told)

pub returns-in-Err-clause-line : goal.returns-in-Err-clause-line
returns-in-Err-clause-line g c = line_after _ _ _ _ _ _ c.in-Err.ensures.written c.serve.ensures.rises_out c.tell.ensures.told
