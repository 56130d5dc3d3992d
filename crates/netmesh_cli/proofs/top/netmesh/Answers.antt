use Rattle.std.proofs.Common.{arith}
use Rattle.netmesh_cli.specs.Jobs.{job_of, task_of_job}
use Rattle.call_words.proofs.Exclusion.{never_both}
use Rattle.netmesh_cli.proofs.Askings.{answer_at_fault, answer_not_built, job_apart, job_is_built, not_unbuilt, no_words_cause, other_answers, other_exactly, other_mesh, refused_answers, refused_words_exactly, unwritten_words}
use Rattle.netmesh_cli.proofs.Tops.{line_after}
use Rattle.netmesh_cli.proofs.top.netmesh.Goals as goal

pub answered-requires-clause-apart : goal.answered-requires-clause-apart
answered-requires-clause-apart g c = λ _ _. job_apart _ (job_of c.in-Ok.asked) c.in-Ok.ensures.asked

pub returns-in-Ok-clause-words_at_fault : goal.returns-in-Ok-clause-words_at_fault
returns-in-Ok-clause-words_at_fault g c = λ fault is. absurd (never_both _ (task_of_job (job_of c.in-Ok.asked)) fault c.in-Ok.ensures.asked is)

pub returns-in-Ok-clause-words_not_built : goal.returns-in-Ok-clause-words_not_built
returns-in-Ok-clause-words_not_built g c = λ ask. absurd (not_unbuilt _ (task_of_job (job_of c.in-Ok.asked)) (job_is_built (job_of c.in-Ok.asked)) c.in-Ok.ensures.asked ask)

pub returns-in-Ok-clause-words_cause : goal.returns-in-Ok-clause-words_cause
returns-in-Ok-clause-words_cause g c = no_words_cause _ (job_of c.in-Ok.asked) _ _ _ _ _ c.answered.ensures.answers

pub returns-in-Ok-clause-answers : goal.returns-in-Ok-clause-answers
returns-in-Ok-clause-answers g c = other_answers _ (job_of c.in-Ok.asked) c.in-Ok.ensures.asked _ _ _ _ _ c.answered.ensures.answers

pub returns-in-Ok-clause-exactly : goal.returns-in-Ok-clause-exactly
returns-in-Ok-clause-exactly g c = other_exactly _ (job_of c.in-Ok.asked) c.in-Ok.ensures.asked _ _ _ _ c.answered.ensures.exactly

pub returns-in-Ok-clause-mesh : goal.returns-in-Ok-clause-mesh
returns-in-Ok-clause-mesh g c = other_mesh _ (job_of c.in-Ok.asked) c.in-Ok.ensures.asked _ _ _ _ _ c.answered.ensures.answers

pub returns-in-Err-clause-words_at_fault : goal.returns-in-Err-clause-words_at_fault
returns-in-Err-clause-words_at_fault g c = answer_at_fault _ _ _ _ _ _ c.in-Err.ensures.refused c.tell.ensures.told

pub returns-in-Err-clause-words_not_built : goal.returns-in-Err-clause-words_not_built
returns-in-Err-clause-words_not_built g c = answer_not_built _ _ _ _ _ _ c.in-Err.ensures.refused c.tell.ensures.told

pub returns-in-Err-clause-answers : goal.returns-in-Err-clause-answers
returns-in-Err-clause-answers g c = refused_answers _ _ _ _ _ _ c.in-Err.ensures.refused c.tell.ensures.told

pub returns-in-Err-clause-exactly : goal.returns-in-Err-clause-exactly
returns-in-Err-clause-exactly g c = refused_words_exactly _ _ _ _ _ _ _ _ c.in-Err.ensures.refused c.tell.ensures.told

pub returns-in-Err-clause-line : goal.returns-in-Err-clause-line
returns-in-Err-clause-line g c = line_after (λ _. ⊥) _ _ _ _ _ (unwritten_words _ _ _ c.in-Err.ensures.refused) (omega arith) c.tell.ensures.told
