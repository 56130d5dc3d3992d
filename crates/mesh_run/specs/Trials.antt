-- How many trials a run makes. A trial is one call of `best`: the least candidate of one front line
-- at one class is looked for. What a run still has to try is a number of pairs, each a front line
-- and a class; a trial that finds nothing takes one of them away, and an application gives those of
-- lines that join or that it touches.
--
-- due_at, due           the pairs still to be tried, of one line and of a front
-- due_in                the pairs still to be tried of what is searched
-- RunView               what contracts see of a run: the run, and what is due
-- IsReachOfAll          a number is no less than the reach of any live rule
-- IsCornerBox           the closed box of the corners of an application's elements
-- IsTouched             an application touches a front line
-- joined                the front lines that join by an application; AreTouched, some that it touches
-- IsChanged             how many lines join by an application or are touched; AreChanged, over applications one after another
-- IsPaid                trials and what is due, over one application; DoesPay, over a step; DoesPayAll, over a run
-- AreBounded            the trials of a run as opened are no more than the classes times the lines
use Rattle.std.specs.Prelude.{ℕ, ◌≡◌, ◌+◌, ◌-◌, ◌*◌, ◌≤◌, Bool, not, nat_lt, List, [], ◌∷◌, ◌++◌, length, filter, sum}
use Rattle.std.specs.List.{AllByRecursion}
use Rattle.grid_geom.specs.declared.Bounds.{Bounds}
use Rattle.grid_geom.specs.Boxes.{DoBoundsMeet}
use Rattle.rule_reader.specs.declared.rule.Rule.{Rule}
use Rattle.rule_maps.specs.Frame.{LocalFrame, IsFrame, IsFrameOf}
use Rattle.rule_maps.specs.Inert.{IsLive}
use Rattle.rule_maps.specs.Reach.{Covers}
use Rattle.size_field.specs.Size.{size_at}
use Rattle.state_law.specs.State.{State, point_at}
use Rattle.rule_match.specs.declared.application.Application.{Application}
use Rattle.rule_match.specs.Near.{reach_lo, reach_hi}
use Rattle.mesh_run.specs.declared.stepped.Stepped.{Stepped}
use Rattle.mesh_run.specs.declared.stepped.Stepped.TheVariants.{Applied, Done, Stuck}
use Rattle.mesh_run.specs.Steps.{RunSetting, applied}
use Rattle.mesh_run.specs.RunState.{RunState, setting_by}
use Rattle.mesh_run.specs.Remembered.{HoldsCorners, IsWider}
use Rattle.mesh_run.specs.Worklist.{least_open}
use Rattle.mesh_run.specs.declared.refusals.Refusals.{Refusals}
use Rattle.mesh_run.specs.declared.search.Scene.{Scene}

-- ---- what is still to be tried
-- the classes at which a line isn't refused: from the least open one to the last
abbrev pub due_at : ℕ → List ℕ → ℕ × ℕ × ℕ → ℕ
due_at last refused line = last + 1 - least_open refused line.0

-- the pairs of a front line and such a class
abbrev pub due : ℕ → List ℕ → List (ℕ × ℕ × ℕ) → ℕ
due last refused [] = 0
due last refused (line ∷ front) = due_at last refused line + due last refused front

-- those of the front that is searched, by what is remembered of it
abbrev pub due_in : Scene → Refusals → ℕ
due_in s m = due s.last m.least.items s.front.now.lines

-- what contracts see of a run: the run, and how many pairs of a front line and a class are still to be tried
pub record RunView : Type 0 where
  pub run : RunState
  pub due : ℕ

-- ---- lines that join, and lines that are touched
-- n is at least 13, and no less than the reach of any live rule. The least such number is the
-- greatest of these reaches, 13 where no rule is live
pub record IsReachOfAll (rules : List Rule) (n : ℕ) : Type 0 where
  pub least : 13 ≤ n
  pub live : AllByRecursion (λ r. IsLive r → Covers r n) rules

-- it is the closed box of the corners of the application's elements: it holds them, and each box
-- that does holds it
pub record IsCornerBox (st : State) (a : Application) (box : Bounds) : Type 0 where
  pub holds : HoldsCorners (st.points ++ a.made) a.elements box
  pub least : (other : Bounds) → HoldsCorners (st.points ++ a.made) a.elements other
      → IsWider box other

-- the box of the line's start, widened for rules that n covers
abbrev pub whole_reach : ℕ → LocalFrame → Bounds
whole_reach n f = record { lo = reach_lo n f; hi = reach_hi n f }

-- the line's reach meets the closed box of the corners of the application's elements: so does its
-- box for each number that is no less than the reach of any live rule, and so for the greatest of
-- these reaches
pub record IsTouched (s : RunSetting) (st : State) (a : Application) (line : ℕ × ℕ × ℕ) : Type 0 where
  pub box : Bounds
  pub corners : IsCornerBox st a box
  pub frame : LocalFrame
  pub is_frame : IsFrame frame
  pub framed : IsFrameOf (point_at (applied st a).points line.1)
      (point_at (applied st a).points line.2) (size_at s.sizes frame.middle) frame
  pub meets : (n : ℕ) → IsReachOfAll s.rules n → DoBoundsMeet (whole_reach n frame) box

-- the front lines after the application that have new numbers
abbrev pub joined : State → Application → List (ℕ × ℕ × ℕ)
joined st a = filter (λ line. not (nat_lt line.0 st.next)) (applied st a).front

-- these are some of the front lines after the application, each of which it touches: so they are no
-- more than those that it touches
pub record AreTouched (s : RunSetting) (st : State) (a : Application) (lines : List (ℕ × ℕ × ℕ)) : Type 0 where
  pub is_one : ℕ × ℕ × ℕ → Bool
  pub lines_are : lines ≡ filter is_one (applied st a).front
  pub each : AllByRecursion (IsTouched s st a) lines

-- k is how many lines join by the application, and how many of those that it touches
pub record IsChanged (s : RunSetting) (st : State) (a : Application) (k : ℕ) : Type 0 where
  pub lines : List (ℕ × ℕ × ℕ)
  pub touched : AreTouched s st a lines
  pub count : k ≡ length (joined st a) + length lines

-- so it is with applications one after another: a line counts once for each by which it joins or is touched
abbrev pub AreChanged : RunSetting → State → List Application → List ℕ → Type 0
AreChanged s st [] counts = counts ≡ []
AreChanged s st (a ∷ more) [] = ⊥
AreChanged s st (a ∷ more) (k ∷ counts) = IsChanged s st a k
    × AreChanged s (applied st a) more counts

-- ---- trials and what is due
-- an application: trials made and pairs due together grow by no more than the last class for each
-- line that joins or is touched. `before` and `after` are the trials made and the pairs due
-- together
pub record IsPaid (s : RunSetting) (st : State) (a : Application) (before after : ℕ) : Type 0 where
  pub lines : ℕ
  pub changed : IsChanged s st a lines
  pub paid : after ≤ before + s.last * lines

-- a step, by what it says
abbrev pub DoesPay : RunState → ℕ → ℕ → Stepped → Type 0
DoesPay r before after (Applied a) = IsPaid (setting_by r.basis) r.state a before after
DoesPay r before after Done = after ≤ before
DoesPay r before after Stuck = after ≤ before

-- the applications by which a run has gone on: no more trials were made than were due, and for each
-- line that joined or was touched as many as there are classes
pub record DoesPayAll (before after : RunState) (budget tried : ℕ) : Type 0 where
  pub more : List Application
  pub applications : after.applications ≡ before.applications ++ more
  pub lines : List ℕ
  pub changed : AreChanged (setting_by before.basis) before.state more lines
  pub paid : tried ≤ budget + before.basis.options.last * sum lines

-- ---- the promise
-- a run as opened has made at most as many trials as there are classes for each opening line, and
-- for each line by each application by which it joined or that touched it
pub record AreBounded (opened after : RunState) (trials : ℕ) : Type 0 where
  pub lines : List ℕ
  pub changed : AreChanged (setting_by opened.basis) opened.state after.applications lines
  pub bounded : trials ≤ opened.basis.options.last * (length opened.basis.lines + sum lines)
