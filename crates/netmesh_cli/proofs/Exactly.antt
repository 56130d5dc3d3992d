-- Which answers may come of files that are told: an answer that has its cause is the only one where the causes
-- of the others don't hold.
use Rattle.std.proofs.Common.{◌≡◌, ◌⊎◌, inl, inr, ℕ, List}
use Rattle.std.specs.Prelude.{Option, Some}
use Rattle.folder_io.specs.Causes.{Told, ToldBoth}
use Rattle.folder_io.specs.Names.{Files}
use Rattle.folder_io.specs.States.{FolderState}
use Rattle.netmesh_cli.specs.declared.outcome.Outcome.{Outcome}
use Rattle.netmesh_cli.specs.declared.outcome.Outcome.TheVariants.{Refused}
use Rattle.netmesh_cli.specs.declared.outcome.Refusal.{Refusal}
use Rattle.netmesh_cli.specs.declared.outcome.Refusal.TheVariants.{Words, In2d, Geometry, Rules, Vol, Log, Folder, Out, Memory, NotYet}
use Rattle.netmesh_cli.specs.Causes.{IsMemory, HasFailed}
use Rattle.netmesh_cli.specs.Taking.{AreAccepted, FirstRefused, TakesRefused}
use Rattle.netmesh_cli.specs.Jobs.{Job, takes_of, EndsSo}
use Rattle.netmesh_cli.specs.Served.{IsServed, FolderCause, of_take, of_put, RefusalCause}
use Rattle.netmesh_cli.specs.Top.{IsFailureOrMemory, Exactly}
use Rattle.netmesh_cli.proofs.Tolds.{told_all, told_weaker, told_before, at_told}
use Rattle.netmesh_cli.proofs.Firsts.{first_unaccepted, one_first, takes_told, take_failed}
use Rattle.netmesh_cli.proofs.Courses.{makes_accepted}
use Rattle.netmesh_cli.proofs.Tops.{served_or}

-- ---- a refusal, from its cause

abbrev IsFirst : Job → Files → Refusal → Type 0
IsFirst job files r = FirstRefused files r (takes_of job) ⊎ IsFailureOrMemory r

folder_first : (job : Job) (s0 s1 : FolderState) (files : Files) (name : List ℕ) (number : ℕ) → s0.held ≡ Some files → FolderCause job s0 s1 name number → IsFirst job files (Folder name number)
folder_first job s0 s1 files name number e (of_take refused) = takes_told s0 s1 files (Folder name number) (takes_of job) e refused
folder_first job s0 s1 files name number e (of_put listed accepted one failed) = inr one

-- where not all files are accepted, the first that isn't is refused
first_of : (job : Job) (s0 s1 : FolderState) (u : Type 0) (files : Files) (r : Refusal) → s0.held ≡ Some files → ¬ AreAccepted (takes_of job) files → RefusalCause job s0 s1 u r → IsFirst job files r
first_of job s0 s1 u files (Words fault) e away cause = absurd cause
first_of job s0 s1 u files (In2d fault) e away cause = takes_told s0 s1 files (In2d fault) (takes_of job) e cause
first_of job s0 s1 u files (Geometry fault) e away cause = takes_told s0 s1 files (Geometry fault) (takes_of job) e cause
first_of job s0 s1 u files (Rules fault) e away cause = takes_told s0 s1 files (Rules fault) (takes_of job) e cause
first_of job s0 s1 u files (Vol fault) e away cause = takes_told s0 s1 files (Vol fault) (takes_of job) e cause
first_of job s0 s1 u files (Log fault) e away cause = takes_told s0 s1 files (Log fault) (takes_of job) e cause
first_of job s0 s1 u files (Folder name number) e away cause = folder_first job s0 s1 files name number e cause
first_of job s0 s1 u files Out e away cause = absurd (away (at_told s0.held (AreAccepted (takes_of job)) files e cause.0))
first_of job s0 s1 u files Memory e away cause = inr tt
first_of job s0 s1 u files (NotYet part) e away cause = takes_told s0 s1 files (NotYet part) (takes_of job) e cause

-- where all are, and nothing failed, only memory is refused
take_free : (job : Job) (s0 s1 : FolderState) (files : Files) (r : Refusal) → s0.held ≡ Some files → AreAccepted (takes_of job) files → TakesRefused s0 s1 r (takes_of job) → IsFailureOrMemory r
take_free job s0 s1 files r e all refused = elim (takes_told s0 s1 files r (takes_of job) e refused) as (λ _. IsFailureOrMemory r) [ inl first ↦ absurd (first_unaccepted files r (takes_of job) first all) | inr free ↦ free ]

folder_free : (job : Job) (s0 s1 : FolderState) (files : Files) (name : List ℕ) (number : ℕ) → s0.held ≡ Some files → AreAccepted (takes_of job) files → FolderCause job s0 s1 name number → HasFailed s0 s1
folder_free job s0 s1 files name number e all (of_take refused) = take_failed s0 s1 name number (takes_of job) (take_free job s0 s1 files (Folder name number) e all refused) refused
folder_free job s0 s1 files name number e all (of_put listed accepted one failed) = failed.0

memory_alone : (job : Job) (s0 s1 : FolderState) (u : Type 0) (files : Files) (r : Refusal) → s0.held ≡ Some files → AreAccepted (takes_of job) files → ¬ HasFailed s0 s1 → ¬ u → RefusalCause job s0 s1 u r → IsMemory r
memory_alone job s0 s1 u files (Words fault) e all unfailed taken cause = absurd cause
memory_alone job s0 s1 u files (In2d fault) e all unfailed taken cause = absurd (take_free job s0 s1 files (In2d fault) e all cause)
memory_alone job s0 s1 u files (Geometry fault) e all unfailed taken cause = absurd (take_free job s0 s1 files (Geometry fault) e all cause)
memory_alone job s0 s1 u files (Rules fault) e all unfailed taken cause = absurd (take_free job s0 s1 files (Rules fault) e all cause)
memory_alone job s0 s1 u files (Vol fault) e all unfailed taken cause = absurd (take_free job s0 s1 files (Vol fault) e all cause)
memory_alone job s0 s1 u files (Log fault) e all unfailed taken cause = absurd (take_free job s0 s1 files (Log fault) e all cause)
memory_alone job s0 s1 u files (Folder name number) e all unfailed taken cause = absurd (unfailed (folder_free job s0 s1 files name number e all cause))
memory_alone job s0 s1 u files Out e all unfailed taken cause = absurd (taken cause.1)
memory_alone job s0 s1 u files Memory e all unfailed taken cause = tt
memory_alone job s0 s1 u files (NotYet part) e all unfailed taken cause = absurd (take_free job s0 s1 files (NotYet part) e all cause)

pub refused_exactly : (job : Job) (s0 s1 : FolderState) (u : Type 0) (result : Refusal) → RefusalCause job s0 s1 u result → Told s0.held (Exactly job (Refused result) (HasFailed s0 s1) u)
refused_exactly job s0 s1 u result cause = told_all s0.held (Exactly job (Refused result) (HasFailed s0 s1) u) (λ files e. record {
  unaccepted = λ away. first_of job s0 s1 u files result e away cause;
  refused = λ r first. elim (first_of job s0 s1 u files result e (first_unaccepted files r (takes_of job) first) cause) [
    | inl told ↦ inl (one_first files result r (takes_of job) told first)
    | inr free ↦ inr free
  ];
  complete = λ all unfailed taken. memory_alone job s0 s1 u files result e all unfailed taken cause;
})

-- ---- no refusal

pub served_exactly : (job : Job) (outcome : Outcome) (h0 h1 : Option Files) (w0 w1 : Option (List ℕ)) (failed u : Type 0) → EndsSo job outcome → ToldBoth h0 h1 (IsServed job outcome w0 w1) → Told h0 (Exactly job outcome failed u)
served_exactly job outcome h0 h1 w0 w1 failed u ends served = told_weaker h0 (AreAccepted (takes_of job)) (Exactly job outcome failed u)
    (λ files all. record {
      unaccepted = λ away. absurd (away all);
      refused = λ r first. absurd (first_unaccepted files r (takes_of job) first all);
      complete = λ _ _ _. served_or job outcome IsMemory ends;
    })
    (told_before h0 h1 (IsServed job outcome w0 w1) (AreAccepted (takes_of job)) (λ old new s. makes_accepted job old s.made s.makes) served)
