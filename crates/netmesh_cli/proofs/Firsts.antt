-- The first of the files that are taken which isn't accepted: there is none where all are accepted, and it
-- gives one refusal. So what a refused take says is so of the files that are told.
use Rattle.std.proofs.Common.{◌≡◌, ◌⊎◌, inl, inr, ℕ, ◌≤◌, ◌<◌, List, [], ◌∷◌, length, sym, subst, ap, refl, ◌∙◌, arith}
use Rattle.std.specs.Prelude.{Option, Some, MatchOption}
use Rattle.folder_io.specs.Causes.{Told}
use Rattle.folder_io.specs.Names.{Files, IsLonger, IsMissing}
use Rattle.folder_io.specs.States.{FolderState}
use Rattle.folder_io.proofs.Counts.{rose_from_earlier}
use Rattle.call_words.specs.declared.words_fault.WordsFault.{WordsFault}
use Rattle.netmesh_cli.specs.declared.outcome.Refusal.{Refusal}
use Rattle.netmesh_cli.specs.declared.outcome.Refusal.TheVariants.{Words, In2d, Geometry, Rules, Vol, Log, Folder, Out, Memory, NotYet}
use Rattle.netmesh_cli.specs.Causes.{HoldsWithin, FolderFault, call_failed, too_long, missing, FetchRefused, HasFailed}
use Rattle.netmesh_cli.specs.Kinds.{limit_of, Rejects, CanReject}
use Rattle.netmesh_cli.specs.Taking.{Taken, HoldsAccepted, HoldsRejected, FileRefused, AreAccepted, FirstRefused, TakeRefused, TakesRefused, names_taken}
use Rattle.netmesh_cli.specs.BytesRefused.{MayRefuse}
use Rattle.netmesh_cli.specs.Served.{IsListed}
use Rattle.netmesh_cli.specs.Top.{IsFailureOrMemory}
use Rattle.netmesh_cli.proofs.Accepting.{held_once, accepted_unrejected, one_rejection, no_words_there, no_out_there, no_folder_there, no_first_there}
use Rattle.netmesh_cli.proofs.Rejecting.{RejectedBeside, MayReject}
use Rattle.netmesh_cli.proofs.Tolds.{told_both, at_told}

-- ---- one file

not_longer : (limit : ℕ) (files : Files) (name bytes : List ℕ) → HoldsWithin limit files name bytes → ¬ IsLonger limit name files
not_longer limit files name bytes holds long =
    let at : MatchOption (Some bytes) ⊥ (λ (b : List ℕ). limit < length b) = subst (λ (o : Option (List ℕ)). MatchOption o ⊥ (λ (b : List ℕ). limit < length b)) holds.held long in
    let short = holds.short in
    omega arith

not_missing : (limit : ℕ) (files : Files) (name bytes : List ℕ) → HoldsWithin limit files name bytes → ¬ IsMissing name files
not_missing limit files name bytes holds none = let e = sym holds.held ∙ none in absurd cc

longer_and_missing : (limit : ℕ) (files : Files) (name : List ℕ) → IsLonger limit name files → ¬ IsMissing name files
longer_and_missing limit files name long none = subst (λ (o : Option (List ℕ)). MatchOption o ⊥ (λ (b : List ℕ). limit < length b)) none long

unrejected : (files : Files) (file : Taken) (r : Refusal) → HoldsAccepted files file → ¬ HoldsRejected files r file
unrejected files file r ok bad = accepted_unrejected files file.kind ok.bytes r ok.accepted
    (subst (λ (b : List ℕ). Rejects files file.kind b r) (held_once files file.name bad.bytes ok.bytes bad.holds.held ok.holds.held) bad.rejected)

-- the folder has it too long, or not at all
record IsAbsent (files : Files) (file : Taken) (r : Refusal) : Type 0 where
  number : ℕ
  is : r ≡ Folder file.name number
  why : ((number ≡ 2) × IsLonger (limit_of file.kind) file.name files) ⊎ ((number ≡ 3) × IsMissing file.name files)

abbrev FileSplit : Files → Taken → Refusal → Type 0
FileSplit files file r = IsAbsent files file r ⊎ HoldsRejected files r file

file_split : (files : Files) (file : Taken) (r : Refusal) → FileRefused files r file → FileSplit files file r
file_split files file (Words fault) refused = inr refused
file_split files file (In2d fault) refused = inr refused
file_split files file (Geometry fault) refused = inr refused
file_split files file (Rules fault) refused = inr refused
file_split files file (Vol fault) refused = inr refused
file_split files file (Log fault) refused = inr refused
file_split files file (Folder name number) refused = inl (record { number = number; is = ap (λ (n : List ℕ). Folder n number) refused.0; why = refused.1 })
file_split files file Out refused = inr refused
file_split files file Memory refused = inr refused
file_split files file (NotYet part) refused = inr refused

absent_unheld : (files : Files) (file : Taken) (r : Refusal) (bytes : List ℕ) → HoldsWithin (limit_of file.kind) files file.name bytes → ¬ IsAbsent files file r
absent_unheld files file r bytes holds absent = elim absent.why [ inl long ↦ not_longer _ files file.name bytes holds long.1 | inr none ↦ not_missing _ files file.name bytes holds none.1 ]

one_absence : (files : Files) (file : Taken) (r s : Refusal) → IsAbsent files file r → IsAbsent files file s → r ≡ s
one_absence files file r s first second =
    let same : first.number ≡ second.number = numbers first.why second.why in
    first.is ∙ ap (Folder file.name) same ∙ sym second.is
  where
    numbers : {m n : ℕ} → ((m ≡ 2) × IsLonger (limit_of file.kind) file.name files) ⊎ ((m ≡ 3) × IsMissing file.name files) → ((n ≡ 2) × IsLonger (limit_of file.kind) file.name files) ⊎ ((n ≡ 3) × IsMissing file.name files) → m ≡ n
    numbers (inl one) (inl two) = one.0 ∙ sym two.0
    numbers (inl one) (inr two) = absurd (longer_and_missing (limit_of file.kind) files file.name one.1 two.1)
    numbers (inr one) (inl two) = absurd (longer_and_missing (limit_of file.kind) files file.name two.1 one.1)
    numbers (inr one) (inr two) = one.0 ∙ sym two.0

accepted_split : (files : Files) (file : Taken) (r : Refusal) → HoldsAccepted files file → ¬ FileSplit files file r
accepted_split files file r ok (inl absent) = absent_unheld files file r ok.bytes ok.holds absent
accepted_split files file r ok (inr bad) = unrejected files file r ok bad

one_split : (files : Files) (file : Taken) (r s : Refusal) → FileSplit files file r → FileSplit files file s → r ≡ s
one_split files file r s (inl first) (inl second) = one_absence files file r s first second
one_split files file r s (inl first) (inr second) = absurd (absent_unheld files file r second.bytes second.holds first)
one_split files file r s (inr first) (inl second) = absurd (absent_unheld files file s first.bytes first.holds second)
one_split files file r s (inr first) (inr second) = one_rejection files file.kind second.bytes r s
    (subst (λ (b : List ℕ). Rejects files file.kind b r) (held_once files file.name first.bytes second.bytes first.holds.held second.holds.held) first.rejected) second.rejected

-- ---- the first of several

pub first_unaccepted : (files : Files) (r : Refusal) (takes : List Taken) → FirstRefused files r takes → ¬ AreAccepted takes files
first_unaccepted files r [] first all = first
first_unaccepted files r (file ∷ later) (inl here) all = accepted_split files file r all.0 (file_split files file r here)
first_unaccepted files r (file ∷ later) (inr more) all = first_unaccepted files r later more.1 all.1

pub one_first : (files : Files) (r s : Refusal) (takes : List Taken) → FirstRefused files r takes → FirstRefused files s takes → r ≡ s
one_first files r s [] first second = absurd first
one_first files r s (file ∷ later) (inl first) (inl second) = one_split files file r s (file_split files file r first) (file_split files file s second)
one_first files r s (file ∷ later) (inl first) (inr second) = absurd (accepted_split files file r second.0 (file_split files file r first))
one_first files r s (file ∷ later) (inr first) (inl second) = absurd (accepted_split files file s first.0 (file_split files file s second))
one_first files r s (file ∷ later) (inr first) (inr second) = one_first files r s later first.1 second.1

-- ---- takes that are refused

-- what the folder refused, or the bytes that were taken
pub take_of_fetch : (before now : FolderState) (r : Refusal) (file : Taken) → FetchRefused (limit_of file.kind) file.name before now r → TakeRefused before now r file
take_of_fetch before now (Words fault) file refused = absurd refused
take_of_fetch before now (In2d fault) file refused = absurd refused
take_of_fetch before now (Geometry fault) file refused = absurd refused
take_of_fetch before now (Rules fault) file refused = absurd refused
take_of_fetch before now (Vol fault) file refused = absurd refused
take_of_fetch before now (Log fault) file refused = absurd refused
take_of_fetch before now (Folder name number) file refused = refused
take_of_fetch before now Out file refused = absurd refused
take_of_fetch before now Memory file refused = tt
take_of_fetch before now (NotYet part) file refused = absurd refused

rejected_at : (held : Option Files) (r : Refusal) (file : Taken) (bytes : List ℕ) → Told held (λ files. HoldsWithin (limit_of file.kind) files file.name bytes) → RejectedBeside held file.kind bytes r → CanReject file.kind r × Told held (λ files. HoldsRejected files r file)
rejected_at held r file bytes told may = (may.0, told_both held _ _ _ (λ files holds rejected. record { bytes = bytes; holds = holds; rejected = rejected }) told may.1)

pub take_of_bytes : (before now : FolderState) (r : Refusal) (file : Taken) (taken bytes : List ℕ) → bytes ≡ taken → Told before.held (λ files. HoldsWithin (limit_of file.kind) files file.name taken) → MayReject before.held file.kind bytes r → TakeRefused before now r file
take_of_bytes before now r file taken bytes same told may = let at = subst (λ (b : List ℕ). MayReject before.held file.kind b r) same may in go r at.refused
  where
    go : (r : Refusal) → MayRefuse (RejectedBeside before.held file.kind taken) r → TakeRefused before now r file
    go (Words fault) may = rejected_at before.held (Words fault) file taken told may
    go (In2d fault) may = rejected_at before.held (In2d fault) file taken told may
    go (Geometry fault) may = rejected_at before.held (Geometry fault) file taken told may
    go (Rules fault) may = rejected_at before.held (Rules fault) file taken told may
    go (Vol fault) may = rejected_at before.held (Vol fault) file taken told may
    go (Log fault) may = rejected_at before.held (Log fault) file taken told may
    go (Folder name number) may = absurd (no_folder_there file.kind name number may.0)
    go Out may = rejected_at before.held Out file taken told may
    go Memory may = tt
    go (NotYet part) may = rejected_at before.held (NotYet part) file taken told may

-- a take after calls of the folder that left what it holds
fault_since : (limit : ℕ) (name : List ℕ) (s0 s1 s2 : FolderState) → s1.held ≡ s0.held → s0.faults ≤ s1.faults → (number : ℕ) → FolderFault limit name s1 s2 number → FolderFault limit name s0 s2 number
fault_since limit name s0 s1 s2 same kept number (call_failed failed) = call_failed (rose_from_earlier s0.faults s1.faults s2.faults kept failed.0, failed.1)
fault_since limit name s0 s1 s2 same kept number (too_long told) = too_long (subst (λ (h : Option Files). Told h (IsLonger limit name)) same told)
fault_since limit name s0 s1 s2 same kept number (missing told) = missing (subst (λ (h : Option Files). Told h (IsMissing name)) same told)

bytes_since : (r : Refusal) (file : Taken) (s0 s1 : FolderState) → s1.held ≡ s0.held → CanReject file.kind r × Told s1.held (λ files. HoldsRejected files r file) → CanReject file.kind r × Told s0.held (λ files. HoldsRejected files r file)
bytes_since r file s0 s1 same refused = (refused.0, subst (λ (h : Option Files). Told h (λ files. HoldsRejected files r file)) same refused.1)

pub take_since : (s0 s1 s2 : FolderState) (r : Refusal) (file : Taken) → s1.held ≡ s0.held → s0.faults ≤ s1.faults → TakeRefused s1 s2 r file → TakeRefused s0 s2 r file
take_since s0 s1 s2 (Words fault) file same kept refused = bytes_since (Words fault) file s0 s1 same refused
take_since s0 s1 s2 (In2d fault) file same kept refused = bytes_since (In2d fault) file s0 s1 same refused
take_since s0 s1 s2 (Geometry fault) file same kept refused = bytes_since (Geometry fault) file s0 s1 same refused
take_since s0 s1 s2 (Rules fault) file same kept refused = bytes_since (Rules fault) file s0 s1 same refused
take_since s0 s1 s2 (Vol fault) file same kept refused = bytes_since (Vol fault) file s0 s1 same refused
take_since s0 s1 s2 (Log fault) file same kept refused = bytes_since (Log fault) file s0 s1 same refused
take_since s0 s1 s2 (Folder name number) file same kept refused = (refused.0, fault_since (limit_of file.kind) file.name s0 s1 s2 same kept number refused.1)
take_since s0 s1 s2 Out file same kept refused = bytes_since Out file s0 s1 same refused
take_since s0 s1 s2 Memory file same kept refused = tt
take_since s0 s1 s2 (NotYet part) file same kept refused = bytes_since (NotYet part) file s0 s1 same refused

-- ---- takes that are refused, where the folder tells what it holds

fault_told : (before now : FolderState) (files : Files) (file : Taken) (name : List ℕ) → before.held ≡ Some files → name ≡ file.name → (number : ℕ) → FolderFault (limit_of file.kind) file.name before now number → FileRefused files (Folder name number) file ⊎ (number ≡ 1)
fault_told before now files file name e n number (call_failed failed) = inr refl
fault_told before now files file name e n number (too_long told) = inl (n, inl (refl, at_told before.held (IsLonger (limit_of file.kind) file.name) files e told))
fault_told before now files file name e n number (missing told) = inl (n, inr (refl, at_told before.held (IsMissing file.name) files e told))

bytes_told : (before : FolderState) (files : Files) (r : Refusal) (file : Taken) → before.held ≡ Some files → CanReject file.kind r × Told before.held (λ files. HoldsRejected files r file) → HoldsRejected files r file
bytes_told before files r file e refused = at_told before.held (λ files. HoldsRejected files r file) files e refused.1

take_told : (before now : FolderState) (files : Files) (r : Refusal) (file : Taken) → before.held ≡ Some files → TakeRefused before now r file → FileRefused files r file ⊎ IsFailureOrMemory r
take_told before now files (Words fault) file e refused = inl (bytes_told before files (Words fault) file e refused)
take_told before now files (In2d fault) file e refused = inl (bytes_told before files (In2d fault) file e refused)
take_told before now files (Geometry fault) file e refused = inl (bytes_told before files (Geometry fault) file e refused)
take_told before now files (Rules fault) file e refused = inl (bytes_told before files (Rules fault) file e refused)
take_told before now files (Vol fault) file e refused = inl (bytes_told before files (Vol fault) file e refused)
take_told before now files (Log fault) file e refused = inl (bytes_told before files (Log fault) file e refused)
take_told before now files (Folder name number) file e refused = fault_told before now files file name e refused.0 number refused.1
take_told before now files Out file e refused = inl (bytes_told before files Out file e refused)
take_told before now files Memory file e refused = inr tt
take_told before now files (NotYet part) file e refused = inl (bytes_told before files (NotYet part) file e refused)

pub takes_told : (before now : FolderState) (files : Files) (r : Refusal) (takes : List Taken) → before.held ≡ Some files → TakesRefused before now r takes → FirstRefused files r takes ⊎ IsFailureOrMemory r
takes_told before now files r [] e refused = absurd refused
takes_told before now files r (file ∷ later) e (inl here) = elim (take_told before now files r file e here) as (λ _. FirstRefused files r (file ∷ later) ⊎ IsFailureOrMemory r) [ inl at ↦ inl (inl at) | inr free ↦ inr free ]
takes_told before now files r (file ∷ later) e (inr more) = elim (takes_told before now files r later e more.1) as (λ _. FirstRefused files r (file ∷ later) ⊎ IsFailureOrMemory r) [
  | inl at ↦ inl (inr (at_told before.held (λ files. HoldsAccepted files file) files e more.0, at))
  | inr free ↦ inr free
]

-- ---- what takes are never refused by, and for which names

never_there : (r : Refusal) → ((before now : FolderState) (file : Taken) → ¬ TakeRefused before now r file) → (before now : FolderState) (takes : List Taken) → ¬ TakesRefused before now r takes
never_there r never before now [] refused = refused
never_there r never before now (file ∷ later) (inl here) = never before now file here
never_there r never before now (file ∷ later) (inr more) = never_there r never before now later more.1

pub no_words : (fault : WordsFault) (before now : FolderState) (takes : List Taken) → ¬ TakesRefused before now (Words fault) takes
no_words fault = never_there (Words fault) (λ before now file refused. no_words_there file.kind fault refused.0)

pub no_out : (before now : FolderState) (takes : List Taken) → ¬ TakesRefused before now Out takes
no_out = never_there Out (λ before now file refused. no_out_there file.kind refused.0)

pub never_first : (before now : FolderState) (takes : List Taken) → ¬ TakesRefused before now (NotYet 1) takes
never_first = never_there (NotYet 1) (λ before now file refused. no_first_there file.kind refused.0)

pub named : (before now : FolderState) (name : List ℕ) (number : ℕ) (takes : List Taken) → TakesRefused before now (Folder name number) takes → IsListed name (names_taken takes)
named before now name number [] refused = absurd refused
named before now name number (file ∷ later) (inl here) = inl here.0
named before now name number (file ∷ later) (inr more) = inr (named before now name number later more.1)

fault_failed : (limit : ℕ) (name : List ℕ) (before now : FolderState) (number : ℕ) → number ≡ 1 → FolderFault limit name before now number → HasFailed before now
fault_failed limit name before now number e (call_failed failed) = failed.0
fault_failed limit name before now number e (too_long told) = absurd cc
fault_failed limit name before now number e (missing told) = absurd cc

-- a failure is one of the folder's count
pub take_failed : (before now : FolderState) (name : List ℕ) (number : ℕ) (takes : List Taken) → number ≡ 1 → TakesRefused before now (Folder name number) takes → HasFailed before now
take_failed before now name number [] e refused = absurd refused
take_failed before now name number (file ∷ later) e (inl here) = fault_failed (limit_of file.kind) file.name before now number e here.1
take_failed before now name number (file ∷ later) e (inr more) = take_failed before now name number later e more.1
