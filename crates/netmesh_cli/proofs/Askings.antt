-- What the top call promises of words, from what they ask for.
use Rattle.std.proofs.Common.{◌≡◌, ℕ, List, sym, subst, refl, ap, ◌∙◌, inl, inr}
use Rattle.std.specs.Prelude.{Option}
use Rattle.folder_io.specs.Causes.{Told, ToldBoth}
use Rattle.folder_io.specs.Names.{Files}
use Rattle.folder_io.specs.States.{FolderState, SinkState}
use Rattle.call_words.specs.declared.words_fault.WordsFault.{WordsFault}
use Rattle.netmesh_cli.specs.declared.outcome.Outcome.{Outcome}
use Rattle.netmesh_cli.specs.declared.outcome.Outcome.TheVariants.{Done, Stuck, Stopped, Good, Bad, Shown, Refused}
use Rattle.netmesh_cli.specs.declared.outcome.Refusal.{Refusal}
use Rattle.netmesh_cli.specs.declared.outcome.Refusal.TheVariants.{Words, In2d, Geometry, Rules, Vol, Log, Folder, Out, Memory, NotYet}
use Rattle.call_words.specs.Commands.{Task, MeshTask, MeshOf, GeomOf, RulesOf, CheckOf, ViewOf, ReplayOf, GenOf, IsCommand, IsFault}
use Rattle.netmesh_cli.specs.Words.{IsUnbuilt, AskForUnbuilt, WordsRefused}
use Rattle.netmesh_cli.specs.Causes.{IsUntaken}
use Rattle.netmesh_cli.specs.Taking.{TakesRefused}
use Rattle.netmesh_cli.specs.Jobs.{Job, MeshJob, GeomJob, RulesJob, CheckJob, ViewJob, task_of_job, takes_of, puts_of, GenJob}
use Rattle.netmesh_cli.specs.Served.{AreApart, RefusalCause, RefusalStands, Keeps, WrittenBefore}
use Rattle.netmesh_cli.specs.Top.{IsNotYetOrMemory, IsWordsOrMemory, IfServed, IfRefused, WordsAnswer, WordsCause, Answers, Exactly, HoldsMesh, Telling}
use Rattle.call_words.proofs.Exclusion.{one_fault, never_both, one_command}
use Rattle.netmesh_cli.proofs.Firsts.{never_first}
use Rattle.netmesh_cli.proofs.Tolds.{told_all, told_as_before}
use Rattle.netmesh_cli.proofs.Courses.{keeps_same}
use Rattle.netmesh_cli.proofs.Tops.{fact_told, mesh_held}

-- ---- words that are refused

-- where words ask for a task that is built, memory alone refuses them
pub memory_alone : (words : List (List ℕ)) (task : Task) → ¬ IsUnbuilt task → IsCommand words task → (r : Refusal) → WordsRefused words r → r ≡ Memory
memory_alone words task built asked (Words fault) refused = absurd (never_both words task fault asked refused)
memory_alone words task built asked (In2d fault) refused = absurd refused
memory_alone words task built asked (Geometry fault) refused = absurd refused
memory_alone words task built asked (Folder name number) refused = absurd refused
memory_alone words task built asked Out refused = absurd refused
memory_alone words task built asked Memory refused = refl
memory_alone words task built asked (Rules fault) refused = absurd refused
memory_alone words task built asked (Vol fault) refused = absurd refused
memory_alone words task built asked (Log fault) refused = absurd refused
memory_alone words task built asked (NotYet part) refused = absurd (built (subst IsUnbuilt (one_command words refused.1.task task refused.1.command asked) refused.1.unbuilt))

at_fault : (words : List (List ℕ)) (fault : WordsFault) → IsFault words fault → (r : Refusal) → WordsRefused words r → IsWordsOrMemory fault r
at_fault words fault is (Words other) refused = one_fault words other fault refused is
at_fault words fault is (In2d why) refused = absurd refused
at_fault words fault is (Geometry why) refused = absurd refused
at_fault words fault is (Folder name number) refused = absurd refused
at_fault words fault is Out refused = absurd refused
at_fault words fault is Memory refused = tt
at_fault words fault is (Rules why) refused = absurd refused
at_fault words fault is (Vol why) refused = absurd refused
at_fault words fault is (Log why) refused = absurd refused
at_fault words fault is (NotYet part) refused = absurd (never_both words refused.1.task fault refused.1.command is)

not_built : (words : List (List ℕ)) → AskForUnbuilt words → (r : Refusal) → WordsRefused words r → IsNotYetOrMemory 1 r
not_built words ask (Words fault) refused = absurd (never_both words ask.task fault ask.command refused)
not_built words ask (In2d fault) refused = absurd refused
not_built words ask (Geometry fault) refused = absurd refused
not_built words ask (Folder name number) refused = absurd refused
not_built words ask Out refused = absurd refused
not_built words ask Memory refused = tt
not_built words ask (Rules fault) refused = absurd refused
not_built words ask (Vol fault) refused = absurd refused
not_built words ask (Log fault) refused = absurd refused
not_built words ask (NotYet part) refused = refused.0

pub answer_at_fault : (words : List (List ℕ)) (s : FolderState) (o0 o1 : SinkState) (given result : Refusal) → WordsRefused words given → Telling o0 o1 given result → (fault : WordsFault) → IsFault words fault → WordsAnswer (IsWordsOrMemory fault) (Refused result) s s
answer_at_fault words s o0 o1 given result refused telling fault is = record { refused = fact_told (IsWordsOrMemory fault) o0 o1 given result tt telling (at_fault words fault is given refused); held = refl }

pub answer_not_built : (words : List (List ℕ)) (s : FolderState) (o0 o1 : SinkState) (given result : Refusal) → WordsRefused words given → Telling o0 o1 given result → AskForUnbuilt words → WordsAnswer (IsNotYetOrMemory 1) (Refused result) s s
answer_not_built words s o0 o1 given result refused telling ask = record { refused = fact_told (IsNotYetOrMemory 1) o0 o1 given result tt telling (not_built words ask given refused); held = refl }

-- ---- words that ask for what is built

-- a built task is the only one that its words ask for
pub not_unbuilt : (words : List (List ℕ)) (task : Task) → ¬ IsUnbuilt task → IsCommand words task → ¬ AskForUnbuilt words
not_unbuilt words task built asked ask = built (subst IsUnbuilt (one_command words ask.task task ask.command asked) ask.unbuilt)

-- the verbs that are built are none of those that aren't
pub job_is_built : (job : Job) → ¬ IsUnbuilt (task_of_job job)
job_is_built (MeshJob task) unbuilt = unbuilt
job_is_built (GeomJob geometry) unbuilt = unbuilt
job_is_built (RulesJob rules) unbuilt = unbuilt
job_is_built (CheckJob geometry mesh) unbuilt = unbuilt
job_is_built (ViewJob log domain step) unbuilt = unbuilt
job_is_built (GenJob squares parts) unbuilt = unbuilt

-- a task is asked for by one job
job_in : Job → Task → Job
job_in other (MeshOf task) = MeshJob task
job_in other (GeomOf name) = GeomJob name
job_in other (RulesOf name) = RulesJob name
job_in other (CheckOf geometry mesh) = CheckJob geometry mesh
job_in other (ViewOf log domain step) = ViewJob log domain step
job_in other (ReplayOf _ _ _) = other
job_in other (GenOf squares parts) = GenJob squares parts

job_again : (other job : Job) → job_in other (task_of_job job) ≡ job
unfolding job_in
job_again other (MeshJob task) = refl
job_again other (GeomJob geometry) = refl
job_again other (RulesJob rules) = refl
job_again other (CheckJob geometry mesh) = refl
job_again other (ViewJob log domain step) = refl
job_again other (GenJob squares parts) = refl

pub one_job : (words : List (List ℕ)) (job other : Job) → IsCommand words (task_of_job job) → IsCommand words (task_of_job other) → job ≡ other
one_job words job other first second = sym (job_again job job) ∙ ap (job_in job) (one_command words (task_of_job job) (task_of_job other) first second) ∙ job_again job other

-- `mesh` has two names for what it puts
pub job_apart : (words : List (List ℕ)) (job : Job) → IsCommand words (task_of_job job) → AreApart (puts_of job)
job_apart words (MeshJob task) command = (λ listed. elim listed [ inl same ↦ command.3.2 (sym same) | inr none ↦ none ], ((λ none. none), tt))
job_apart words (GeomJob geometry) command = tt
job_apart words (RulesJob rules) command = tt
job_apart words (CheckJob geometry mesh) command = tt
job_apart words (ViewJob log domain step) command = tt
job_apart words (GenJob squares parts) command = tt

-- ---- memory is refused for words that ask for what is built

memory_told : (words : List (List ℕ)) (job : Job) → IsCommand words (task_of_job job) → (o0 o1 : SinkState) (given result : Refusal) → WordsRefused words given → Telling o0 o1 given result → Memory ≡ result
memory_told words job asked o0 o1 given result refused telling = sym (fact_told (λ (r : Refusal). r ≡ Memory) o0 o1 given result refl telling (memory_alone words (task_of_job job) (job_is_built job) asked given refused))

memory_answers : (job : Job) (s : FolderState) (o0 o1 : SinkState) → Answers job (Refused Memory) s s o0 o1
memory_answers job s o0 o1 = record {
  ending = tt;
  served = tt;
  cause = tt;
  stands = told_as_before s.held s.held (λ old new. RefusalStands job old new Memory) refl (λ files. tt);
  keeps = told_as_before s.held s.held (Keeps job) refl (keeps_same job);
  puts_nothing = λ _. refl;
  untaken = λ out. absurd cc;
}

pub refused_answers : (words : List (List ℕ)) (s : FolderState) (o0 o1 : SinkState) (given result : Refusal) → WordsRefused words given → Telling o0 o1 given result → (job : Job) → IsCommand words (task_of_job job) → Answers job (Refused result) s s o0 o1
refused_answers words s o0 o1 given result refused telling job asked = subst (λ (r : Refusal). Answers job (Refused r) s s o0 o1) (memory_told words job asked o0 o1 given result refused telling) (memory_answers job s o0 o1)

memory_exactly : (job : Job) (failed u : Type 0) (files : Files) → Exactly job (Refused Memory) failed u files
memory_exactly job failed u files = record { unaccepted = λ _. inr tt; refused = λ _ _. inr tt; complete = λ _ _ _. tt }

pub refused_words_exactly : (words : List (List ℕ)) (h : Option Files) (failed u : Type 0) (o0 o1 : SinkState) (given result : Refusal) → WordsRefused words given → Telling o0 o1 given result → (job : Job) → IsCommand words (task_of_job job) → Told h (Exactly job (Refused result) failed u)
refused_words_exactly words h failed u o0 o1 given result refused telling job asked = told_all h (Exactly job (Refused result) failed u)
    (λ files _. subst (λ (r : Refusal). Exactly job (Refused r) failed u files) (memory_told words job asked o0 o1 given result refused telling) (memory_exactly job failed u files))

-- nothing was written before the words were told
pub unwritten_words : (words : List (List ℕ)) (w : Option (List ℕ)) (given : Refusal) → WordsRefused words given → WrittenBefore (λ _. ⊥) w w given
unwritten_words words w (Words fault) refused = refl
unwritten_words words w (In2d fault) refused = refl
unwritten_words words w (Geometry fault) refused = refl
unwritten_words words w (Rules fault) refused = refl
unwritten_words words w (Vol fault) refused = refl
unwritten_words words w (Log fault) refused = refl
unwritten_words words w (Folder name number) refused = refl
unwritten_words words w Out refused = absurd refused
unwritten_words words w Memory refused = refl
unwritten_words words w (NotYet part) refused = refl

-- a verb that is built is refused neither for its words nor as one that isn't
not_first : (job : Job) (s0 s1 : FolderState) (part : ℕ) → TakesRefused s0 s1 (NotYet part) (takes_of job) → ¬ (part ≡ 1)
not_first job s0 s1 part refused e = never_first s0 s1 (takes_of job) (subst (λ (n : ℕ). TakesRefused s0 s1 (NotYet n) (takes_of job)) e refused)

cause_of_words : (words : List (List ℕ)) (job : Job) (s0 s1 : FolderState) (u : Type 0) (r : Refusal) → RefusalCause job s0 s1 u r → WordsCause words r
cause_of_words words job s0 s1 u (Words fault) cause = absurd cause
cause_of_words words job s0 s1 u (In2d fault) cause = tt
cause_of_words words job s0 s1 u (Geometry fault) cause = tt
cause_of_words words job s0 s1 u (Rules fault) cause = tt
cause_of_words words job s0 s1 u (Vol fault) cause = tt
cause_of_words words job s0 s1 u (Log fault) cause = tt
cause_of_words words job s0 s1 u (Folder name number) cause = tt
cause_of_words words job s0 s1 u Out cause = tt
cause_of_words words job s0 s1 u Memory cause = tt
cause_of_words words job s0 s1 u (NotYet part) cause = λ e. absurd (not_first job s0 s1 part cause e)

pub no_words_cause : (words : List (List ℕ)) (job : Job) (s0 s1 : FolderState) (o0 o1 : SinkState) (outcome : Outcome) → Answers job outcome s0 s1 o0 o1 → IfRefused outcome (WordsCause words)
no_words_cause words job s0 s1 o0 o1 outcome answers = go outcome answers.cause
  where
    go : (o : Outcome) → IfRefused o (RefusalCause job s0 s1 (IsUntaken o0 o1)) → IfRefused o (WordsCause words)
    go Done cause = tt
    go Stuck cause = tt
    go Stopped cause = tt
    go Good cause = tt
    go Bad cause = tt
    go Shown cause = tt
    go (Refused r) cause = cause_of_words words job s0 s1 (IsUntaken o0 o1) r cause

-- ---- the job that the call found is that of any reading of the words

pub other_answers : (words : List (List ℕ)) (job : Job) → IsCommand words (task_of_job job) → (outcome : Outcome) (s0 s1 : FolderState) (o0 o1 : SinkState) → Answers job outcome s0 s1 o0 o1 → (other : Job) → IsCommand words (task_of_job other) → Answers other outcome s0 s1 o0 o1
other_answers words job asked outcome s0 s1 o0 o1 answers other again = subst (λ (j : Job). Answers j outcome s0 s1 o0 o1) (one_job words job other asked again) answers

pub other_exactly : (words : List (List ℕ)) (job : Job) → IsCommand words (task_of_job job) → (outcome : Outcome) (h : Option Files) (failed u : Type 0) → Told h (Exactly job outcome failed u) → (other : Job) → IsCommand words (task_of_job other) → Told h (Exactly other outcome failed u)
other_exactly words job asked outcome h failed u told other again = subst (λ (j : Job). Told h (Exactly j outcome failed u)) (one_job words job other asked again) told

pub other_mesh : (words : List (List ℕ)) (job : Job) → IsCommand words (task_of_job job) → (outcome : Outcome) (s0 s1 : FolderState) (o0 o1 : SinkState) → Answers job outcome s0 s1 o0 o1 → (task : MeshTask) → IsCommand words (MeshOf task) → IfServed outcome (λ served. ToldBoth s0.held s1.held (HoldsMesh task served o0.written o1.written))
other_mesh words job asked outcome s0 s1 o0 o1 answers task again = mesh_held task outcome s0 s1 o0 o1 (other_answers words job asked outcome s0 s1 o0 o1 answers (MeshJob task) again)
