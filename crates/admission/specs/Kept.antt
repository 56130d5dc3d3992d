-- What is kept of a state while elements are admitted.
use mir.Val.{SFits}
use mir.Syntax.{w128}
use Rattle.std.specs.Prelude.{◌≡◌, ℕ, ◌+◌, ◌-◌, ◌*◌, ◌^◌, ◌≤◌, Option, Some, None, List, ◌++◌, ◌+ℤ◌, ◌-ℤ◌}
use Rattle.std.specs.List.{All}
use Rattle.grid_geom.specs.declared.Point.{Point}
use Rattle.grid_geom.specs.declared.RatPoint.{RatPoint}
use Rattle.grid_geom.specs.declared.Bounds.{Bounds}
use Rattle.grid_geom.specs.Bounds.{IsOnGrid}
use Rattle.grid_geom.specs.Area.{shoelace}
use Rattle.grid_geom.specs.Polygon.{sides}
use Rattle.grid_geom.specs.Winding.{wind}
use Rattle.wind_law.specs.Grid.{AreOnGrid}
use Rattle.state_law.specs.Gluing.{MayBeGlued}
use Rattle.state_law.specs.State.{State, IsNumbered}
use Rattle.state_law.specs.Region.{IsRegion}
use Rattle.front_chain.specs.Front.{FrontState, or_zero, edges_of}
use Rattle.admission.specs.declared.refusal.GlueRefusal.{GlueRefusal}
use Rattle.admission.specs.declared.view.View.{View}
use Rattle.admission.specs.declared.shapes.Shape.{Shape}
use Rattle.admission.specs.Triangles.{corners_of_triangle}
use Rattle.admission.specs.Around.{lines_near, glue_shape, next_shape}
use Rattle.admission.specs.Admission.{edges_at, SaysWhy, MayFollow, IsRefusal}

-- the view has the state's lines near the box, its next number and its doubled area, and the sides of the elements that led from the front f to the state
pub record IsViewOf (f : FrontState) (box : Bounds) (st : State) (view : View) : Type 0 where
  pub numbered : IsNumbered st
  pub on_grid : All IsOnGrid st.points
  pub region : IsRegion (edges_at st)
  pub lines : view.lines.items ≡ lines_near box st.points st.front
  pub next : view.next ≡ st.next
  pub left : view.left ≡ shoelace (edges_at st)
  pub fits : SFits w128 view.left
  pub taken_on : AreOnGrid view.taken.items
  pub winding : (q : RatPoint) → wind q (edges_of f) ≡ wind q view.taken.items
      +ℤ wind q (edges_at st)
  pub bounded : st.next + 4 * or_zero (shoelace (edges_at st)) ≤ 2 ^ 64 - 1

-- no refusal where the element with number k and these corners may be glued, else the one that says why not
abbrev pub IsVerdict : State → List Point → ℕ → Option GlueRefusal → Type 0
IsVerdict st cs k None = MayBeGlued cs (edges_at st)
IsVerdict st cs k (Some r) = SaysWhy st cs k r

-- the view after the element is glued
pub record IsViewAfter (old : View) (shape : Shape) (new : View) : Type 0 where
  pub near : new.near ≡ old.near
  pub lines : new.lines.items ≡ glue_shape old.lines.items old.next shape
  pub next : new.next ≡ next_shape old.lines.items old.next shape
  pub left : new.left ≡ old.left -ℤ shoelace (sides (corners_of_triangle shape.t))
  pub taken : new.taken.items ≡ old.taken.items ++ sides (corners_of_triangle shape.t)

-- no refusal where the elements may be glued one after another, else that of the first one that may not
abbrev pub IsWhole : State → List (List ℕ) → Option GlueRefusal → Type 0
IsWhole st elements None = MayFollow st elements
IsWhole st elements (Some r) = IsRefusal st elements 1 r
