-- What a walk over assignments has found so far, and what it owes each assignment that it has passed.
-- An assignment is here a list of numbers, one for each mapped point in the order of mapping; the meanings of its tests are parameters.
--
-- IsSettled   an assignment has been passed: what is found isn't after it, and where nothing is found its reason is noted
-- IsAdvance   how a search goes on
-- AreOf       each number of an assignment is of its region
-- DoesGoOn    an assignment that holds, begins with some numbers and goes on with one number of each region
-- IsFresh     some number of an assignment is fresh; HoldsFresh: and it holds
use Rattle.std.specs.Prelude.{ℕ, ◌≡◌, ◌<◌, ◌⊎◌, length, slice_index_or, List, ◌++◌, Option, None, Some}
use Rattle.std.specs.List.{AllZip, Contains}
use Rattle.std.specs.declared.vec.Vec.{Vec}
use Rattle.std.specs.declared.alloc.Global.{Global}
use Rattle.rule_match.specs.declared.found.Found.{Found}
use Rattle.rule_match.specs.declared.progress.Note.{Note}
use Rattle.rule_match.specs.declared.progress.Progress.{Progress}
use Rattle.rule_match.specs.Order.{IsNoWorse}

-- the later list begins with the earlier one
abbrev pub BeginsWith : List Note → List Note → Type 0
BeginsWith later earlier = (more : List Note) × (later ≡ earlier ++ more)

-- the walk has passed the assignment b: what is found isn't after it, and where nothing is found its reason is noted
pub record IsSettled (holds : List ℕ → Type 0) (reasons : List Note → List ℕ → Type 0) (rank : List ℕ → Found) (p : Progress) (b : List ℕ) : Type 0 where
  pub least : holds b → IsNoWorse p.best (Some (rank b))
  pub refused : p.best ≡ None → reasons p.notes.items b

-- what is found now was found before, or is a candidate
abbrev pub IsFrom : (holds : List ℕ → Type 0) (rank : List ℕ → Found) → Option Found → Option Found
    → Type 0
IsFrom holds rank old None = Unit {0}
IsFrom holds rank old (Some r) = (old ≡ Some r) ⊎ ((b : List ℕ) × holds b × (r ≡ rank b))

-- a search goes on: the best find is no worse, the notes are as before and more, and what is found is a candidate
pub record IsAdvance (holds : List ℕ → Type 0) (rank : List ℕ → Found) (old new : Progress) : Type 0 where
  pub no_worse : IsNoWorse new.best old.best
  pub noted : BeginsWith new.notes.items old.notes.items
  pub from : IsFrom holds rank old.best new.best

-- each number is of its region
abbrev pub AreOf : List (Vec ℕ Global) → List ℕ → Type 0
AreOf regions ps = AllZip (λ region p. Contains region.items p) regions ps

-- the assignment holds, and goes on from the chosen numbers with one number of each region
abbrev pub DoesGoOn : (List ℕ → Type 0) → List ℕ → List (Vec ℕ Global) → List ℕ → Type 0
DoesGoOn holds chosen regions b =
    holds b × ((rest : List ℕ) × (b ≡ chosen ++ rest) × AreOf regions rest)

-- some number of the assignment is fresh
abbrev pub IsFresh : List ℕ → List ℕ → Type 0
IsFresh fresh b = (k : ℕ) × (k < length b) × Contains fresh (slice_index_or b k 0)

-- the assignment holds, and some number of it is fresh
abbrev pub HoldsFresh : (List ℕ → Type 0) → List ℕ → List ℕ → Type 0
HoldsFresh holds fresh b = holds b × IsFresh fresh b
