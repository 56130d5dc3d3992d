-- Refusals that a run remembers: classes at which a front line was found to have no candidate, each
-- with a box that holds all that was looked at to find it. An application touches what is
-- remembered where the box of the corners of its elements meets such a box. This is forgotten, and
-- nothing else.
--
-- AreRemembered   what is remembered of each line is true
-- AreCovering     reaches by class, each of which covers the rules up to its class
-- IsRegion        an entry is the region of a line at a class; HasRegion, a line has one
-- AreReaching     each class that is remembered of a front line has a region, and each region is of such a line (IsOfLine)
-- AreTrue         all of these, and notes hold; IsEmpty, nothing is remembered
-- IsInArea        a place lies in a closed box; IsWider, a box holds another one; HoldsCorners, it holds the corners of elements
-- AreStill        entries that stay
-- AreHits         the entries whose boxes meet the box of an application's elements
-- IsGone          nothing is remembered by an entry; AreDropped, such entries are dropped
-- IsForgottenNear what is remembered after looking again near an application's elements
-- IsNoted         one more refusal is remembered; AreSameRefusals, none is
-- setting_in      what is searched; state_in, the state that is looked at
-- DoesRemember    a run keeps its state, what it remembers is true, and its front lines are to be tried
-- IsApartFrom     an application's elements lie in a box apart from another one
use Rattle.std.specs.Prelude.{ℕ, ◌≡◌, ◌≢◌, ◌⊎◌, ◌≤◌, ◌<◌, ◌≤ℤ◌, false, List, [], ◌++◌, length, map, slice_index_or, filter, Option, IfSome}
use Rattle.std.specs.BTreeMap.{get}
use Rattle.std.specs.BTreeSet.{BTreeSet}
use Rattle.std.specs.List.{All, AllByRecursion, Contains}
use Rattle.grid_geom.specs.declared.Bounds.{Bounds}
use Rattle.grid_geom.specs.declared.Point.{Point}
use Rattle.grid_geom.specs.Boxes.{DoBoundsMeet}
use Rattle.digital_tree.specs.declared.Entry.{Entry}
use Rattle.digital_tree.specs.Entries.{is_hit, AreDifferent}
use Rattle.size_field.specs.Size.{SizeField}
use Rattle.state_law.specs.Saved.{AreInBox}
use Rattle.state_law.specs.State.{State, corners_of, point_at}
use Rattle.rule_reader.specs.declared.rule.Rule.{Rule}
use Rattle.front_chain.specs.Front.{state_of}
use Rattle.rule_match.specs.declared.application.Application.{Application}
use Rattle.rule_match.specs.Least.{HasNone}
use Rattle.rule_match.specs.Near.{AreBoxesApart, IsBox, IsCoveredAt, IsCoveredBy, IsReachBox, whole_grid}
use Rattle.mesh_run.specs.declared.refusals.Refusals.{Refusals}
use Rattle.mesh_run.specs.declared.refusals.Region.{Region}
use Rattle.mesh_run.specs.declared.search.Scene.{Scene}
use Rattle.mesh_run.specs.Steps.{RunSetting}
use Rattle.mesh_run.specs.Kept.{AreNoted, IsLookedAgain, IsNotedAt}
use Rattle.mesh_run.specs.Worklist.{AreToTry, turn_cmp}
use Rattle.mesh_run.specs.RunState.{RunState, IsRunState, setting_by}

-- ---- what is remembered
-- below the class that stands at its number a line has no candidate
pub record AreRemembered (refused : List ℕ) (s : RunSetting) (st : State) : Type 0 where
  pub none : (line class : ℕ) → 1 ≤ class → class < slice_index_or refused line 0
      → HasNone s.sizes st s.rules line class

-- there is a reach for each class up to 16. It covers the rules up to the class, and is no greater than a
-- number that covers them at all classes
pub record AreCovering (rules : List Rule) (reaches : List ℕ) : Type 0 where
  pub long : length reaches ≡ 17
  pub no_greater : (class : ℕ) → class < length reaches → (n : ℕ)
      → AllByRecursion (IsCoveredBy n) rules → slice_index_or reaches class 0 ≤ n
  pub covers : (class : ℕ) → class < length reaches
      → AllByRecursion (IsCoveredAt class (slice_index_or reaches class 0)) rules

-- the entry is of the line, from a class on that is no greater but has the same reach, and its box
-- holds all that is looked at on the line at the class
pub record IsRegion (reaches : List ℕ) (sizes : SizeField) (points : List Point) (line : ℕ × ℕ × ℕ) (class : ℕ) (e : Entry Region) : Type 0 where
  pub of_line : e.value.line ≡ line.0
  pub from : e.value.class ≤ class
  pub tried : class < length reaches
  pub same : slice_index_or reaches class 0 ≡ slice_index_or reaches e.value.class 0
  pub holds : IsReachBox sizes points (slice_index_or reaches class 0) line.1 line.2 e.bounds

-- one of the entries is the line's region at the class
pub record HasRegion (m : Refusals) (sizes : SizeField) (points : List Point) (line : ℕ × ℕ × ℕ) (class : ℕ) : Type 0 where
  pub entry : Entry Region
  pub there : Contains m.regions.entries entry
  pub region : IsRegion m.reaches.items sizes points line class entry

-- the box is that of the line's reach up to some class
pub record IsReachOfLine (reaches : List ℕ) (sizes : SizeField) (points : List Point) (line : ℕ × ℕ × ℕ) (box : Bounds) : Type 0 where
  pub class : ℕ
  pub tried : class < length reaches
  pub is_box : IsReachBox sizes points (slice_index_or reaches class 0) line.1 line.2 box

-- the entry is of a line that is or was on the front, and of one that is its box is that of the
-- line's reach up to some class
pub record IsOfLine (reaches : List ℕ) (sizes : SizeField) (st : State) (e : Entry Region) : Type 0 where
  pub given : e.value.line < st.next
  pub box : (line : ℕ × ℕ × ℕ) → Contains st.front line → line.0 ≡ e.value.line
      → IsReachOfLine reaches sizes st.points line e.bounds

-- something is remembered only of numbers that lines have or had; each class that is remembered of
-- a front line has a region; and each entry is of such a line
pub record AreReaching (m : Refusals) (sizes : SizeField) (st : State) : Type 0 where
  pub given : (line : ℕ) → 0 < slice_index_or m.least.items line 0 → line < st.next
  pub regions : (line : ℕ × ℕ × ℕ) (class : ℕ) → Contains st.front line → 1 ≤ class
      → class < slice_index_or m.least.items line.0 0 → HasRegion m sizes st.points line class
  pub own : (e : Entry Region) → Contains m.regions.entries e
      → IsOfLine m.reaches.items sizes st e

-- what is remembered is true, and the reaches cover the rules
pub record AreTrue (m : Refusals) (s : RunSetting) (st : State) : Type 0 where
  pub remembered : AreRemembered m.least.items s st
  pub covers : AreCovering s.rules m.reaches.items
  pub reaching : AreReaching m s.sizes st
  pub noted : AreNoted m s st

-- nothing is remembered, and the reaches are these
pub record IsEmpty (reaches : List ℕ) (m : Refusals) : Type 0 where
  pub nothing : m.least.items ≡ []
  pub no_regions : m.regions.entries ≡ []
  pub no_notes : m.notes.entries ≡ []
  pub reaches_are : m.reaches.items ≡ reaches

-- as much is remembered of each line
pub record AreSameRefusals (before after : List ℕ) : Type 0 where
  pub each : (line : ℕ) → slice_index_or after line 0 ≡ slice_index_or before line 0

-- of each line as much is remembered as before, or it is the line and this is remembered
pub record IsNoted (before after : List ℕ) (line least : ℕ) : Type 0 where
  pub each : (other : ℕ) → (slice_index_or after other 0 ≡ slice_index_or before other 0)
      ⊎ ((other ≡ line) × (slice_index_or after other 0 ≡ least))

-- ---- boxes
-- the elements' corners lie in a box that is apart from the box from lo to hi
pub record IsApartFrom (lo hi : Point) (st : State) (a : Application) : Type 0 where
  pub least : Point
  pub greatest : Point
  pub box : IsBox lo hi
  pub apart : AreBoxesApart lo hi least greatest
  pub elements : AllByRecursion (AreInBox least greatest)
      (map (corners_of (st.points ++ a.made)) a.elements)

-- the place is in the closed box
pub record IsInArea (area : Bounds) (p : Point) : Type 0 where
  pub right_of_least : area.lo.x ≤ℤ p.x
  pub left_of_greatest : p.x ≤ℤ area.hi.x
  pub above_least : area.lo.y ≤ℤ p.y
  pub below_greatest : p.y ≤ℤ area.hi.y

-- the second box holds the first
pub record IsWider (area wider : Bounds) : Type 0 where
  pub left : wider.lo.x ≤ℤ area.lo.x
  pub right : area.hi.x ≤ℤ wider.hi.x
  pub below : wider.lo.y ≤ℤ area.lo.y
  pub above : area.hi.y ≤ℤ wider.hi.y

-- the box holds the corners of the elements, by the numbers of these points
abbrev pub HoldsCorners : List Point → List (List ℕ) → Bounds → Type 0
HoldsCorners points elements box =
    All (λ ns. All (λ n. IsInArea box (point_at points n)) ns) elements

-- ---- what is forgotten
-- of the entry's line nothing is remembered from its class on
abbrev pub IsGone : Refusals → Entry Region → Type 0
IsGone m e = slice_index_or m.least.items e.value.line 0 ≤ e.value.class

-- each entry of before is there
pub record AreStill (before after : List (Entry Region)) : Type 0 where
  pub each : (e : Entry Region) → Contains before e → Contains after e

-- the area is the least box that holds the corners of the elements, by the numbers of these points:
-- a box on the grid. The entries are those whose boxes meet it
pub record AreHits (points : List Point) (elements : List (List ℕ)) (entries hits : List (Entry Region)) : Type 0 where
  pub area : Bounds
  pub holds : HoldsCorners points elements area
  pub on_grid : DoBoundsMeet area whole_grid
  pub least : (other : Bounds) → DoBoundsMeet other whole_grid
      → HoldsCorners points elements other → IsWider area other
  pub different : AreDifferent entries
  pub hits_are : hits ≡ filter (is_hit area) entries

-- one of the entries is of the line
pub record HasEntryOf (es : List (Entry Region)) (line : ℕ) : Type 0 where
  pub entry : Entry Region
  pub there : Contains es entry
  pub of_line : entry.value.line ≡ line

-- entries of which nothing is remembered any more are dropped: no entry comes, each is still there or of its
-- line nothing is remembered from its class on, and nothing else changes
pub record AreDropped (before after : Refusals) : Type 0 where
  pub reaches : after.reaches.items ≡ before.reaches.items
  pub least : after.least.items ≡ before.least.items
  pub notes : after.notes ≡ before.notes
  pub fewer : (e : Entry Region) → Contains after.regions.entries e
      → Contains before.regions.entries e
  pub stay : (e : Entry Region) → Contains before.regions.entries e
      → Contains after.regions.entries e ⊎ IsGone before e

-- what is remembered in the later state after entries are looked at again whose boxes meet the area,
-- the least box of the corners of the elements. Of no line more is remembered, and of a line of none of
-- these entries as much as before; for each entry of before, of its line nothing is from its class on,
-- or it is still there, and its box doesn't meet the area or its line was looked at again; and no entry comes.
-- A pair that is still remembered has the notes of before, or is refused by those that it has
pub record IsForgottenNear (s : RunSetting) (later : State) (points : List Point) (elements : List (List ℕ)) (before after : Refusals) : Type 0 where
  pub area : Bounds
  pub holds : HoldsCorners points elements area
  pub on_grid : DoBoundsMeet area whole_grid
  pub least : (other : Bounds) → DoBoundsMeet other whole_grid
      → HoldsCorners points elements other → IsWider area other
  pub reaches : after.reaches.items ≡ before.reaches.items
  pub less : (line : ℕ)
      → slice_index_or after.least.items line 0 ≤ slice_index_or before.least.items line 0
  pub kept : (line : ℕ)
      → (slice_index_or after.least.items line 0 ≡ slice_index_or before.least.items line 0)
      ⊎ HasEntryOf (filter (is_hit area) before.regions.entries) line
  pub each : (e : Entry Region) → Contains before.regions.entries e → IsGone after e
      ⊎ (Contains after.regions.entries e
      × ((is_hit area e ≡ false) ⊎ IsLookedAgain after s later e.value))
  pub fewer : (e : Entry Region) → Contains after.regions.entries e
      → Contains before.regions.entries e
  pub pairs : (line class : ℕ) → class < slice_index_or after.least.items line 0
      → (get turn_cmp after.notes (class, line) ≡ get turn_cmp before.notes (class, line))
      ⊎ IsNotedAt after.notes s later line class

-- ---- what is searched
-- what a search stands on, and the state that it looks at
abbrev pub setting_in : Scene → RunSetting
setting_in s = record { sizes = s.sizes.now; rules = s.rules.now; last = s.last }

abbrev pub state_in : Scene → State
state_in s = state_of s.front.now

-- the run's state is that of the definition, what it remembers is true, and each front line is to
-- be tried, where that is known
pub record DoesRemember (r : RunState) (m : Refusals) (known : Option (BTreeSet (ℕ × ℕ))) : Type 0 where
  pub is_run : IsRunState r
  pub remembered : AreTrue m (setting_by r.basis) r.state
  pub to_try : IfSome known
      (λ work. AreToTry work r.state.front m.least.items r.basis.options.last)
