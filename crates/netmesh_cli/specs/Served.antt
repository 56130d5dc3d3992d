-- What a call of any verb leaves, and why it is refused.
--
-- put_all          what is held after some files are put
-- IsServed         success: what is made is put and written, and the outcome is the one that was made
-- StopsAt          what is held where a put was refused
-- Course           how far a call came that was refused
-- RefusalCause     the cause of each refusal
-- RefusalStands    what is held after each refusal
-- Keeps            what is held after any call
use Rattle.std.specs.Prelude.{◌≡◌, ◌≢◌, ◌⊎◌, ℕ, List, [], ◌∷◌, ◌++◌, Option}
use Rattle.std.specs.FinMap as finite
use Rattle.std.specs.List.{AllByRecursion}
use Rattle.folder_io.specs.Causes.{Told, ToldBoth, GrowsByPrefix}
use Rattle.folder_io.specs.Names.{Files, Holds, held_at, SameBut}
use Rattle.folder_io.specs.States.{FolderState, SinkState, FailedFor}
use Rattle.netmesh_cli.specs.declared.outcome.Outcome.{Outcome}
use Rattle.netmesh_cli.specs.declared.outcome.Refusal.{Refusal}
use Rattle.netmesh_cli.specs.declared.outcome.Refusal.TheVariants.{Words, Folder, Out, Memory}
use Rattle.netmesh_cli.specs.Causes.{PutRefused, AnswerRefused}
use Rattle.netmesh_cli.specs.Taking.{AreAccepted, TakesRefused, names_taken}
use Rattle.netmesh_cli.specs.Jobs.{Job, takes_of, puts_of, Put, Made, Makes, names_of_puts}

-- the name is one of these
abbrev pub IsListed : List ℕ → List (List ℕ) → Type 0
IsListed name [] = ⊥
IsListed name (other ∷ later) = (name ≡ other) ⊎ IsListed name later

-- no name stands twice
abbrev pub AreApart : List (List ℕ) → Type 0
AreApart [] = Unit {0}
AreApart (name ∷ later) = (¬ IsListed name later) × AreApart later

-- what is held after these files are put, one after another
abbrev pub put_all : List Put → Files → Files
put_all [] files = files
put_all (put ∷ later) files = put_all later (finite.insert files put.name put.bytes)

-- ---- success

-- what the files that were held at entry make is put and written, and the outcome is the one that was made
pub record IsServed (job : Job) (outcome : Outcome) (before now : Option (List ℕ)) (old new : Files) : Type 0 where
  pub made : Made
  pub makes : Makes job old made
  pub put : new ≡ put_all made.puts old
  pub written : ToldBoth before now (λ first last. last ≡ first ++ made.answer)
  pub ends : outcome ≡ made.outcome

-- an answer of the verb on the files that are held, where they are told
abbrev pub IsAnswer : Job → Option Files → List ℕ → Type 0
IsAnswer job held answer = Told held
    (λ files. (made : Made) × Makes job files made × (answer ≡ made.answer))

-- ---- how far a refused call came

-- the files before this one are put, and of all else only what its name holds may be new
pub record StopsAt (puts : List Put) (name : List ℕ) (old new : Files) : Type 0 where
  pub done : List Put
  pub put : Put
  pub later : List Put
  pub puts_are : puts ≡ done ++ put ∷ later
  pub named : put.name ≡ name
  pub others : SameBut name (put_all done old) new

-- why some puts are refused: one of them is, and the puts stop there
pub record PutsRefused (puts : List Put) (before now : FolderState) (refusal : Refusal) : Type 0 where
  pub name : List ℕ
  pub listed : IsListed name (names_of_puts puts)
  pub stops : ToldBoth before.held now.held (StopsAt puts name)
  pub refused : PutRefused name before now refusal

-- so it is with the files that are made
pub record StopsAtPut (job : Job) (name : List ℕ) (old new : Files) : Type 0 where
  pub made : Made
  pub makes : Makes job old made
  pub stops : StopsAt made.puts name old new

-- all files that are made are put
pub record HasAll (job : Job) (old new : Files) : Type 0 where
  pub made : Made
  pub makes : Makes job old made
  pub put : new ≡ put_all made.puts old

-- what is written by a call that was refused, before the refusal's own line: nothing, or a prefix of its
-- answer where that was not taken
abbrev pub WrittenBefore : (List ℕ → Type 0) → Option (List ℕ) → Option (List ℕ) → Refusal → Type 0
WrittenBefore IsAnswer before now Out =
    (answer : List ℕ) × IsAnswer answer × ToldBoth before now (GrowsByPrefix answer)
WrittenBefore IsAnswer before now _ = now ≡ before

-- why nothing is made: a take is refused, or memory
abbrev pub MakeRefused : Job → FolderState → FolderState → Refusal → Type 0
MakeRefused job before now Memory = Unit {0}
MakeRefused job before now refusal = TakesRefused before now refusal (takes_of job)

-- where the work stopped: before the puts, at a put, or at the answer
pub data Course (job : Job) (before now : FolderState) (out out_now : SinkState) : Refusal → Type 0 where
  at_make : {r : Refusal} → now.held ≡ before.held → MakeRefused job before now r
      → Course job before now out out_now r
  at_put : {r : Refusal} → (name : List ℕ) → IsListed name (puts_of job)
      → ToldBoth before.held now.held (StopsAtPut job name) → PutRefused name before now r
      → Course job before now out out_now r
  at_answer : {r : Refusal} → ToldBoth before.held now.held (HasAll job)
      → AnswerRefused out out_now r
      → Course job before now out out_now r

-- ---- what a refusal means

-- the folder refused a file: one that is taken, or, where all that are taken are accepted, one that is put
pub data FolderCause (job : Job) (before now : FolderState) (name : List ℕ) (number : ℕ) : Type 0 where
  of_take : TakesRefused before now (Folder name number) (takes_of job)
      → FolderCause job before now name number
  of_put : IsListed name (puts_of job) → Told before.held (AreAccepted (takes_of job)) → number ≡ 1
      → FailedFor before now name → FolderCause job before now name number

-- the cause of each refusal
abbrev pub RefusalCause : Job → FolderState → FolderState → Type 0 → Refusal → Type 0
RefusalCause job before now untaken (Words fault) = ⊥
RefusalCause job before now untaken (Folder name number) = FolderCause job before now name number
RefusalCause job before now untaken Out = Told before.held (AreAccepted (takes_of job)) × untaken
RefusalCause job before now untaken Memory = Unit {0}
RefusalCause job before now untaken refusal = TakesRefused before now refusal (takes_of job)

-- what is held after the folder refused a file
pub record FolderStands (job : Job) (old new : Files) (name : List ℕ) (number : ℕ) : Type 0 where
  pub not_failed : number ≢ 1 → new ≡ old
  pub not_put : ¬ IsListed name (puts_of job) → new ≡ old
  -- the puts stopped at it, if it isn't also a file that is taken and failed there
  pub at_put : IsListed name (puts_of job) → (new ≡ old) ⊎ StopsAtPut job name old new
  pub at_put_alone : IsListed name (puts_of job) → ¬ IsListed name (names_taken (takes_of job))
      → StopsAtPut job name old new

-- what is held after each refusal: what was held at entry, unless a put was tried
abbrev pub RefusalStands : Job → Files → Files → Refusal → Type 0
RefusalStands job old new (Folder name number) = FolderStands job old new name number
RefusalStands job old new Out = HasAll job old new
RefusalStands job old new Memory = Unit {0}
RefusalStands job old new _ = new ≡ old

-- each of the files is put, or those behind it hold what they held
abbrev pub ArePutInOrder : List Put → Files → Files → Type 0
ArePutInOrder [] old new = Unit {0}
ArePutInOrder (put ∷ later) old new =
    (Holds new put.name put.bytes × ArePutInOrder later old new)
    ⊎ AllByRecursion (λ put. held_at new put.name ≡ held_at old put.name) later

-- the files that are made are put in order
pub record HasPutInOrder (job : Job) (old new : Files) : Type 0 where
  pub made : Made
  pub makes : Makes job old made
  pub order : ArePutInOrder made.puts old new

-- what is held after any call: only the names that are put may hold anything new, only where all files that
-- are taken are accepted, and a file only where those before it are put
pub record Keeps (job : Job) (old new : Files) : Type 0 where
  pub others : (other : List ℕ) → ¬ IsListed other (puts_of job)
      → held_at new other ≡ held_at old other
  pub unaccepted : ¬ AreAccepted (takes_of job) old → new ≡ old
  pub in_order : (new ≡ old) ⊎ HasPutInOrder job old new
