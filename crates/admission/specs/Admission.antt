-- When the elements of an application may be glued to a front one after another, and why they may not: the first element that may not, by the first condition that fails for it, at its least place.
-- Origin: the advancing front of Schoeberl 1997, with this project's own tests. The code asks the lines near the elements alone, and takes no sum of a winding number where a side of the element is a front line.
use Rattle.std.specs.Prelude.{◌≡◌, ◌≢◌, ◌⊎◌, ℕ, ◌+◌, List, [], ◌∷◌, ◌++◌, map, pos, ◌<ℤ◌}
use Rattle.grid_geom.specs.declared.Point.{Point}
use Rattle.grid_geom.specs.declared.Edge.{Edge}
use Rattle.grid_geom.specs.Polygon.{sides, IsStrictlyConvex}
use Rattle.grid_geom.specs.Area.{shoelace}
use Rattle.grid_geom.specs.Winding.{wind}
use Rattle.wind_law.specs.Centre.{centre}
use Rattle.state_law.specs.Gluing.{MayBeGlued}
use Rattle.state_law.specs.State.{State, front_edges, corners_of, glued}
use Rattle.front_chain.specs.Front.{FrontState}
use Rattle.admission.specs.declared.triangle.Line.{Line}
use Rattle.admission.specs.declared.refusal.GlueRefusal.{GlueRefusal}
use Rattle.admission.specs.declared.refusal.GlueRefusal.TheVariants.{Turned, Met, PointOnSide, CornerOnLine, Backwards, Outside, Area, Memory}
use Rattle.admission.specs.Triangles.{IsLine, IsEnd, HasSome, IsLeast, IsMet, IsOnSide, IsCornerOn, IsBackwards}
use Rattle.admission.specs.Around.{drawn}

-- ---- states
-- the front as a state, with the new points listed after its own
abbrev pub entered : FrontState → List Point → State
entered f made = record { points = f.points ++ made; front = f.lines; next = f.next; elements = [] }

-- the state's lines as edges, and with their numbers and places
abbrev pub edges_at : State → List Edge
edges_at st = front_edges st.points st.front

abbrev pub lines_at : State → List Line
lines_at st = map (drawn st.points) st.front

-- the state after elements are glued one after another
abbrev pub glued_on : State → List (List ℕ) → State
glued_on st [] = st
glued_on st (ns ∷ elements) = glued_on (glued st ns) elements

-- the element may be glued to the state, and each of the elements to the state that those before it leave
abbrev pub MayJoin : State → List ℕ → Type 0
MayJoin st ns = MayBeGlued (corners_of st.points ns) (edges_at st)

abbrev pub MayFollow : State → List (List ℕ) → Type 0
MayFollow st [] = Unit {0}
MayFollow st (ns ∷ elements) = MayJoin st ns × MayFollow (glued st ns) elements

-- ---- what hinders the element with these corners in the state
-- n is the number of a line that is not apart from the open element, of a front point in an open side, of a line with a corner in its open segment, of a line that is a side reversed
abbrev pub MeetsLine : State → List Point → ℕ → Type 0
MeetsLine st cs n = HasSome (IsLine (IsMet cs)) (lines_at st) n

abbrev pub HasPointOnSide : State → List Point → ℕ → Type 0
HasPointOnSide st cs n = HasSome (IsEnd (IsOnSide cs)) (lines_at st) n

abbrev pub HasCornerOnLine : State → List Point → ℕ → Type 0
HasCornerOnLine st cs n = HasSome (IsLine (IsCornerOn cs)) (lines_at st) n

abbrev pub HasSideBackwards : State → List Point → ℕ → Type 0
HasSideBackwards st cs n = HasSome (IsLine (IsBackwards cs)) (lines_at st) n

-- no number has P
abbrev pub HasNone : (ℕ → Type 0) → Type 0
HasNone P = (n : ℕ) → ¬ (P n)

-- the conditions before each one
pub record IsApartFromLines (st : State) (cs : List Point) : Type 0 where
  pub turned : IsStrictlyConvex cs
  pub apart : HasNone (MeetsLine st cs)

pub record HasFreeSides (st : State) (cs : List Point) : Type 0 where
  pub before : IsApartFromLines st cs
  pub sides_free : HasNone (HasPointOnSide st cs)

pub record HasFreeCorners (st : State) (cs : List Point) : Type 0 where
  pub before : HasFreeSides st cs
  pub corners_free : HasNone (HasCornerOnLine st cs)

pub record IsClear (st : State) (cs : List Point) : Type 0 where
  pub before : HasFreeCorners st cs
  pub forwards : HasNone (HasSideBackwards st cs)

pub record IsWithin (st : State) (cs : List Point) : Type 0 where
  pub before : IsClear st cs
  pub within : wind (centre cs) (edges_at st) ≡ pos 1

-- ---- refusals
-- the refusal says which condition is the first that fails for the element with number k and these corners
abbrev pub SaysWhy : State → List Point → ℕ → GlueRefusal → Type 0
SaysWhy st cs k (Turned element) = (element ≡ k) × ¬ (IsStrictlyConvex cs)
SaysWhy st cs k (Met element line) = (element ≡ k) × IsStrictlyConvex cs
    × IsLeast (MeetsLine st cs) line
SaysWhy st cs k (PointOnSide element point) = (element ≡ k) × IsApartFromLines st cs
    × IsLeast (HasPointOnSide st cs) point
SaysWhy st cs k (CornerOnLine element line) = (element ≡ k) × HasFreeSides st cs
    × IsLeast (HasCornerOnLine st cs) line
SaysWhy st cs k (Backwards element line) = (element ≡ k) × HasFreeCorners st cs
    × IsLeast (HasSideBackwards st cs) line
SaysWhy st cs k (Outside element winding) = (element ≡ k) × IsClear st cs
    × (winding ≡ wind (centre cs) (edges_at st)) × (winding ≢ pos 1)
SaysWhy st cs k (Area element left) = (element ≡ k) × IsWithin st cs
    × (left ≡ shoelace (edges_at st)) × (left <ℤ shoelace (sides cs))
SaysWhy st cs k Memory = ⊥

-- the refusal of elements numbered from k on: that of the first one that may not be glued
abbrev pub IsRefusal : State → List (List ℕ) → ℕ → GlueRefusal → Type 0
IsRefusal st [] k r = ⊥
IsRefusal st (ns ∷ elements) k r = SaysWhy st (corners_of st.points ns) k r
    ⊎ (MayJoin st ns × IsRefusal (glued st ns) elements (k + 1) r)

-- the front g is f with the new points listed and these elements glued
pub record HasGlued (f : FrontState) (made : List Point) (elements : List (List ℕ)) (g : FrontState) : Type 0 where
  pub points : g.points ≡ f.points ++ made
  pub lines : g.lines ≡ (glued_on (entered f made) elements).front
  pub next : g.next ≡ (glued_on (entered f made) elements).next
