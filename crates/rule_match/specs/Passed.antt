-- What a search over the rules owes: of one rule on a base line, and of all rules so far.
--
-- IsPassed       a rule is passed: what is found isn't after any of its candidates on the base
--                line, and is no other; where nothing is found its assignments are excused
-- NoneMayApply   none of the first so many rules is live and of quality at most the class
-- IsOn           an attempt on the base line by a rule of the list
-- IsFind         what is found is such an attempt, and a candidate
-- IsLeastSoFar   what is found is the least of the candidates by the first so many rules
-- AreExcusedSoFar  where nothing is found, the notes hold the reasons of all attempts by these rules
-- IsSoFar        both
-- IsPassedAgain, IsAgainSoFar   the same of the assignments that map a fresh point
-- IsEnough       what maps a fresh point maps points alone that are looked at
-- AreShort, DoFewSuffice, HoldsFew   when the line's ends and the fresh points are enough
use Rattle.std.specs.Prelude.{◌≡◌, ℕ, ◌-◌, ◌≤◌, ◌<◌, List, length, true, Option, None, Some, slice_get}
use Rattle.rule_reader.specs.declared.rule.Rule.{Rule}
use Rattle.rule_maps.specs.Inert.{IsLive}
use Rattle.state_law.specs.State.{State}
use Rattle.front_chain.specs.Front.{state_of}
use Rattle.rule_match.specs.declared.found.Found.{Found}
use Rattle.rule_match.specs.declared.progress.Progress.{Progress}
use Rattle.rule_match.specs.Order.{IsNoWorse}
use Rattle.rule_match.specs.Candidate.{Attempt, IsCandidate}
use Rattle.rule_match.specs.Least.{IsOf, rank}
use Rattle.std.specs.List.{Any, Contains}
use Rattle.rule_match.specs.declared.around.Scope.{Scope}
use Rattle.rule_match.specs.declared.near.NearPoint.{NearPoint}
use Rattle.rule_match.specs.Walk.{IsAdvance, IsFresh, HoldsFresh}
use Rattle.rule_match.specs.Fitting.{fits_so_far}
use Rattle.rule_match.specs.Trying.{near_at, ties}
use Rattle.rule_match.specs.Around.{AreLookedAt}
use Rattle.size_field.specs.Size.{SizeField}
use Rattle.rule_match.specs.Refused.{IsAllowed, FitsFront, IsExcused}
use Rattle.rule_match.specs.Noted.{HasExcuse}
use Rattle.rule_match.specs.Base.{BaseLine, Tried, attempt_of, setting_at}

-- the state of the front of a base line
abbrev pub state_at : BaseLine → State
state_at b = state_of b.front

-- the assignment stands for a candidate, and what it is
abbrev pub Holds : Tried → List ℕ → Type 0
Holds t b = IsCandidate (state_at t.base) (attempt_of t b)

abbrev pub rank_of : Tried → List ℕ → Found
rank_of t b = rank (state_at t.base) (attempt_of t b)

-- the rule is passed on the base line: what is found was found before, or is a candidate by the
-- rule; and it isn't after any candidate by the rule
pub record IsPassed (t : Tried) (old new : Progress) : Type 0 where
  pub advance : IsAdvance (Holds t) (rank_of t) old new
  pub least : (b : List ℕ) → length b ≡ length t.rule.points
      → fits_so_far (ties (setting_at t)) b ≡ true → Holds t b
      → IsNoWorse new.best (Some (rank_of t b))
  pub excused : (b : List ℕ) → length b ≡ length t.rule.points
      → fits_so_far (ties (setting_at t)) b ≡ true → new.best ≡ None → HasExcuse t new.notes.items b

-- none of the first k rules is live and of quality at most the class
abbrev pub NoneMayApply : ℕ → List Rule → ℕ → Type 0
NoneMayApply class rules k = (number : ℕ) → number < k →
    (rule : Rule) → slice_get rules number ≡ Some rule → IsLive rule → rule.quality ≤ class → ⊥

-- an attempt on the base line by a rule of the list
pub record IsOn (b : BaseLine) (rules : List Rule) (t : Attempt) : Type 0 where
  pub class : t.class ≡ b.class
  pub line : t.line ≡ b.line
  pub frame : t.frame ≡ b.frame
  pub first : 1 ≤ t.rule
  pub is_rule : slice_get rules (t.rule - 1) ≡ Some t.text

-- the find is of a candidate on the base line
pub record IsFind (b : BaseLine) (rules : List Rule) (found : Found) : Type 0 where
  pub attempt : Attempt
  pub on : IsOn b rules attempt
  pub candidate : IsCandidate (state_at b) attempt
  pub is : found ≡ rank (state_at b) attempt

-- where something is found, it is of a candidate
abbrev pub IsFindIfAny : BaseLine → List Rule → Option Found → Type 0
IsFindIfAny b rules None = Unit {0}
IsFindIfAny b rules (Some found) = IsFind b rules found

-- what is found is the least of the candidates on the base line by the first k rules
pub record IsLeastSoFar (b : BaseLine) (rules : List Rule) (k : ℕ) (best : Option Found) : Type 0 where
  pub found : IsFindIfAny b rules best
  pub least : (t : Attempt) → IsOn b rules t → t.rule ≤ k → AreLookedAt b.scope t.points
      → IsCandidate (state_at b) t → IsNoWorse best (Some (rank (state_at b) t))

-- where nothing is found and notes are made, they hold the reason of each allowed attempt on the base line by the first k
-- rules that fits the front and maps points that are asked for
pub record AreExcusedSoFar (b : BaseLine) (rules : List Rule) (k : ℕ) (Asked : List ℕ → Type 0) (p : Progress) : Type 0 where
  pub excused : p.best ≡ None → b.noting ≡ true → (t : Attempt) → IsOn b rules t → t.rule ≤ k
      → AreLookedAt b.scope t.points → Asked t.points → IsAllowed (state_at b) t
      → FitsFront (state_at b) t → IsExcused (state_at b) p.notes.items t

-- all attempts are asked for
abbrev pub AllAsked : List ℕ → Type 0
AllAsked points = Unit {0}

pub record IsSoFar (b : BaseLine) (rules : List Rule) (k : ℕ) (p : Progress) : Type 0 where
  pub least : IsLeastSoFar b rules k p.best
  pub excused : AreExcusedSoFar b rules k AllAsked p

-- ---- of the assignments that map a fresh point
-- one of the points is fresh
abbrev pub MapsOne : List ℕ → List ℕ → Type 0
MapsOne fresh points = Any (λ p. Contains fresh p) points

-- of the rule's assignments on the base line those with a fresh number are passed
pub record IsPassedAgain (t : Tried) (fresh : List ℕ) (old new : Progress) : Type 0 where
  pub advance : IsAdvance (HoldsFresh (Holds t) fresh) (rank_of t) old new
  pub excused : (b : List ℕ) → length b ≡ length t.rule.points
      → fits_so_far (ties (setting_at t)) b ≡ true → IsFresh fresh b → new.best ≡ None
      → HasExcuse t new.notes.items b

-- where something is found, it is of a candidate that maps a fresh point
abbrev pub IsFreshFindIfAny : BaseLine → List Rule → List ℕ → Option Found → Type 0
IsFreshFindIfAny b rules fresh None = Unit {0}
IsFreshFindIfAny b rules fresh (Some found) = IsFind b rules found × MapsOne fresh found.points

-- what is found is of a candidate on the base line that maps a fresh point; where nothing is, the attempts by the first k rules that map a fresh
-- point are excused
pub record IsAgainSoFar (b : BaseLine) (rules : List Rule) (k : ℕ) (fresh : List ℕ) (p : Progress) : Type 0 where
  pub found : IsFreshFindIfAny b rules fresh p.best
  pub excused : AreExcusedSoFar b rules k (MapsOne fresh) p

-- each allowed attempt of the line at the class that maps a fresh point maps points alone that are looked at
abbrev pub IsEnough : SizeField → State → List Rule → ℕ → ℕ → List ℕ → Scope → Type 0
IsEnough sizes st rules line class fresh scope = (t : Attempt) → IsOf sizes st rules line class t
    → IsAllowed st t → MapsOne fresh t.points → AreLookedAt scope t.points

-- none of the first k rules that may apply at the class maps more than three points
abbrev pub AreShort : ℕ → List Rule → ℕ → Type 0
AreShort class rules k = (number : ℕ) → number < k → (rule : Rule)
    → slice_get rules number ≡ Some rule → IsLive rule → rule.quality ≤ class
    → length rule.points ≤ 3

-- no end of the line is fresh, and no rule that may apply maps more than three points: so what maps a fresh point maps it and the ends alone
pub record DoFewSuffice (class : ℕ) (rules : List Rule) (ends : ℕ × ℕ) (fresh : List ℕ) : Type 0 where
  pub stale_from : ¬ (Contains fresh ends.0)
  pub stale_to : ¬ (Contains fresh ends.1)
  pub short : AreShort class rules (length rules)

-- few suffice, and these hold the line's ends and the fresh points
pub record HoldsFew (class : ℕ) (rules : List Rule) (ends : ℕ × ℕ) (fresh these : List ℕ) : Type 0 where
  pub few : DoFewSuffice class rules ends fresh
  pub holds_from : Contains these ends.0
  pub holds_to : Contains these ends.1
  pub holds_fresh : (n : ℕ) → Contains fresh n → Contains these n

-- the near points whose numbers are fresh are those at these positions
pub record AreFreshAt (near : List NearPoint) (fresh positions : List ℕ) : Type 0 where
  pub all : (k : ℕ) → k < length near → Contains fresh (near_at near k).number → Contains positions k
  pub only : (k : ℕ) → Contains positions k → Contains fresh (near_at near k).number
