-- What a rule and an assignment of front points make of a base line at a class, when that is a candidate, and why it is none for good.
-- The tests that look at places alone (tolerances, orientations, the grid, a strictly convex zone) stay outside: here they are one condition, `Allowed`.
use lib.IntN.{pos, ◌-ℤ◌}
use lib.Signed.{◌<ℤ◌, ◌≤ℤ◌}
use mathlib.Core.Path.{◌≡◌}
use mathlib.Core.List.{List, ◌∷◌, ◌++◌}
use mathlib.Core.Logic.{◌⊎◌}
use Rattle.std.specs.List.{AllByRecursion}
use Rattle.grid_geom.specs.declared.Point.{Point}
use Rattle.grid_geom.specs.declared.RatPoint.{RatPoint}
use Rattle.grid_geom.specs.declared.Edge.{Edge}
use Rattle.grid_geom.specs.Plane.{IsRational}
use Rattle.grid_geom.specs.Line.{whole}
use Rattle.grid_geom.specs.Polygon.{sides, IsStrictlyConvex, IsInPolygon, IsApart}
use Rattle.grid_geom.specs.Area.{shoelace}
use Rattle.grid_geom.specs.Winding.{wind}
use Rattle.grid_geom.specs.Closed.{IsClosed, IsEdge, IsOff}
use Rattle.state_law.specs.Free.{AreFreeOf, AreAlike, IsIn}
use Rattle.state_law.specs.Net.{net}
use Rattle.state_law.specs.Gluing.{glue_all, IsClearOf, MayAllBeGlued}
use Rattle.state_law.specs.Kept.{all_sides}
use Rattle.state_law.specs.Saved.{IsCorner, IsFrontPoint}

-- the places that a rule and an assignment give
pub record Attempt : Type 0 where
  pub mapped : List Point
  pub lines : List Edge
  pub made : List Point
  pub zone : List Point
  pub elements : List (List Point)

-- the mapped points are front points, the mapped lines front lines
pub record DoesFit (front : List Edge) (t : Attempt) : Type 0 where
  pub points : AllByRecursion (IsFrontPoint front) t.mapped
  pub lines : AllByRecursion (λ e. IsIn e front) t.lines

-- an end of the line is mapped, or not in the open zone
abbrev pub IsEndFree : Attempt → Point → Type 0
IsEndFree t p = IsCorner p t.mapped ⊎ ¬ (IsInPolygon (whole p) t.zone)

pub record IsCandidate (Allowed : Attempt → Type 0) (points : List Point) (front : List Edge) (t : Attempt) : Type 0 where
  pub allowed : Allowed t
  pub fits : DoesFit front t
  pub at_new_places : AllByRecursion (λ p. ¬ (IsCorner p points)) t.made
  pub no_point_in_zone : AllByRecursion (λ e. IsEndFree t e.a × IsEndFree t e.b) front
  pub no_line_in_zone : AllByRecursion (λ e. IsIn e t.lines ⊎ IsApart e.a e.b t.zone) front
  pub glued : MayAllBeGlued t.elements front

-- the elements are those before, one, and those after
pub record IsSplit (elements before : List (List Point)) (cs : List Point) (after : List (List Point)) : Type 0 where
  pub joined : elements ≡ before ++ cs ∷ after

-- why the attempt is no candidate: of the front lines that hinder it one is among the witnesses
pub data HasReason (points : List Point) (front witnesses : List Edge) (t : Attempt) : Type 0 where
  place_taken : (p : Point) → IsCorner p t.made → IsCorner p points
      → HasReason points front witnesses t
  not_turned : (before : List (List Point)) (cs : List Point) (after : List (List Point))
      → IsSplit t.elements before cs after → ¬ (IsStrictlyConvex cs)
      → HasReason points front witnesses t
  line_in_zone : (w : Edge) → IsIn w witnesses → IsIn w front → ¬ (IsIn w t.lines)
      → ¬ (IsApart w.a w.b t.zone) → HasReason points front witnesses t
  line_hinders : (before : List (List Point)) (cs : List Point) (after : List (List Point))
      → IsSplit t.elements before cs after →
      (w : Edge) → (IsIn w front → IsIn w witnesses)
      → pos 1 ≤ℤ (net w front -ℤ net w (all_sides before)) → ¬ (IsClearOf cs w)
      → HasReason points front witnesses t
  outside_front : (before : List (List Point)) (cs : List Point) (after : List (List Point))
      → IsSplit t.elements before cs after → AllByRecursion IsStrictlyConvex before
      → IsStrictlyConvex cs →
      (q : RatPoint) → IsRational q → IsInPolygon q cs → IsOff q (glue_all front before)
      → wind q (glue_all front before) ≤ℤ pos 0 → HasReason points front witnesses t
  too_large : (before : List (List Point)) (cs : List Point) (after : List (List Point))
      → IsSplit t.elements before cs after → shoelace (glue_all front before) <ℤ shoelace (sides cs)
      → HasReason points front witnesses t

-- the pair of base line and class is refused: each allowed attempt that fits has a reason
abbrev pub IsRefused : (Attempt → Type 0) → List Point → List Edge → List Edge → Type 0
IsRefused Allowed points front witnesses = (t : Attempt) → Allowed t → DoesFit front t
    → HasReason points front witnesses t

-- what all allowed attempts have: mapped points are near the base line, mapped lines join mapped points, corners are mapped or made
pub record AreNear (Allowed : Attempt → Type 0) (Near : Point → Type 0) : Type 0 where
  pub mapped_near : (t : Attempt) → Allowed t → AllByRecursion Near t.mapped
  pub lines_join : (t : Attempt) → Allowed t
      → AllByRecursion (λ e. IsCorner e.a t.mapped × IsCorner e.b t.mapped) t.lines
  pub corners_known : (t : Attempt) → Allowed t
      → AllByRecursion (λ cs. AllByRecursion
      (λ c. IsCorner c t.mapped ⊎ IsCorner c t.made) cs) t.elements

-- a joined line that opens no new attempt: an end that is near was a front point before, and not both ends are near
pub record IsHarmless (Near : Point → Type 0) (front : List Edge) (e : Edge) : Type 0 where
  pub start_known : Near e.a → IsFrontPoint front e.a
  pub end_known : Near e.b → IsFrontPoint front e.b
  pub not_both : Near e.a → Near e.b → ⊥

-- after elements are glued: no witness has left, and each line that has joined is harmless
pub record IsUntouched (Near : Point → Type 0) (front after witnesses : List Edge) : Type 0 where
  pub stay : AllByRecursion (λ w. IsIn w front → IsIn w after) witnesses
  pub joined : AllByRecursion (λ e. IsIn e front ⊎ IsHarmless Near front e) after

-- a front by itself: closed, without doubles and reverses
pub record IsFront (front : List Edge) : Type 0 where
  pub edges : AllByRecursion IsEdge front
  pub closed : IsClosed front
  pub single : AreFreeOf AreAlike front

-- an application: elements are glued one after another, and `more` are the points that it lists
pub record IsStep (Allowed : Attempt → Type 0) (Near : Point → Type 0) (points more : List Point) (front : List Edge) (elements : List (List Point)) (witnesses : List Edge) : Type 0 where
  pub near : AreNear Allowed Near
  pub is_front : IsFront front
  pub glued : MayAllBeGlued elements front
  pub listed : AllByRecursion (λ e. IsCorner e.a (points ++ more) × IsCorner e.b (points ++ more))
      (glue_all front elements)
  pub untouched : IsUntouched Near front (glue_all front elements) witnesses
