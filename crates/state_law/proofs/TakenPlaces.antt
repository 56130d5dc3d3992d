-- A made point at a place that an old element has as a corner, and that no front line has as an end, lets no application pass that names it. The first element that has it can't be glued, and before that it is on no front line either.
use mathlib.Core.List.{List, [], ◌∷◌, ◌++◌}
use mathlib.Core.Logic.{◌⊎◌, inl, inr}
use lib.IntN.{pos}
use lib.Signed.{◌≤ℤ◌}
use Rattle.std.specs.List.{AllByRecursion}
use Rattle.grid_geom.specs.declared.Point.{Point}
use Rattle.grid_geom.specs.declared.RatPoint.{RatPoint}
use Rattle.grid_geom.specs.declared.Edge.{Edge}
use Rattle.grid_geom.specs.Plane.{IsRational}
use Rattle.grid_geom.specs.Winding.{wind}
use Rattle.grid_geom.specs.Closed.{IsOff}
use Rattle.grid_geom.proofs.SharedPoint.{same_or_not}
use Rattle.state_law.specs.Gluing.{glue, MayAllBeGlued}
use Rattle.state_law.specs.Kept.{IsKept}
use Rattle.state_law.specs.Saved.{IsCorner, IsElement, IsElementCorner, IsFrontPoint, IsNoEnd}
use Rattle.state_law.proofs.KeptOn.{kept_on}
use Rattle.state_law.proofs.Saved.{taken_place}
use Rattle.state_law.proofs.Hanging.{front_point_or_not, was_front}

corner_or_not : (c : Point) (cs : List Point) → IsCorner c cs ⊎ ¬ (IsCorner c cs)
corner_or_not c [] = inr (λ i. i)
corner_or_not c (d ∷ cs) = elim (same_or_not d c) [
  | inl e ↦ inl (inl e)
  | inr n ↦ elim (corner_or_not c cs) [ inl i ↦ inl (inr i) | inr m ↦ inr (λ z. elim z [ inl e ↦ n e | inr i ↦ m i ]) ]
]

no_front_point : (front : List Edge) (c : Point) → AllByRecursion (IsNoEnd c) front → IsFrontPoint front c → ⊥
no_front_point [] c n i = i
no_front_point (e ∷ front) c n (inl (inl i)) = n.0.0 i
no_front_point (e ∷ front) c n (inl (inr i)) = n.0.1 i
no_front_point (e ∷ front) c n (inr i) = no_front_point front c n.1 i

still_no_end : (front : List Edge) (cs : List Point) (c : Point) → AllByRecursion (IsNoEnd c) front → ¬ (IsCorner c cs) → AllByRecursion (IsNoEnd c) (glue front cs)
still_no_end front cs c n m = elim (front_point_or_not (glue front cs) c) [
  | inr h ↦ h
  | inl i ↦ absurd (elim (was_front front cs c i) [ inl j ↦ no_front_point front c n j | inr j ↦ m j ])
]

still_element : (ds : List Point) (elements : List (List Point)) (cs : List Point) → IsElement ds elements → IsElement ds (elements ++ cs ∷ [])
still_element ds [] cs i = absurd i
still_element ds (fs ∷ elements) cs (inl e) = inl e
still_element ds (fs ∷ elements) cs (inr i) = inr (still_element ds elements cs i)

pub taken_all : (boundary others front : List Edge) (elements more : List (List Point)) (ds : List Point) (c : Point) → IsKept boundary others front elements → ((q : RatPoint) → IsRational q → IsOff q others → wind q boundary ≤ℤ pos 1) → IsElement ds elements → IsCorner c ds → AllByRecursion (IsNoEnd c) front → IsElementCorner c more → ¬ (MayAllBeGlued more front)
taken_all boundary others front elements [] ds c k b d i n j m = j
taken_all boundary others front elements (cs ∷ more) ds c k b d i n j m = elim (corner_or_not c cs) [
  | inl h ↦ taken_place boundary others front elements ds cs c k b d i h n m.0
  | inr h ↦ taken_all boundary others (glue front cs) (elements ++ cs ∷ []) more ds c (kept_on boundary others front elements cs k m.0) b (still_element ds elements cs d) i (still_no_end front cs c n h) (rest h j) m.1
]
  where
    rest : ¬ (IsCorner c cs) → IsCorner c cs ⊎ IsElementCorner c more → IsElementCorner c more
    rest h (inl i) = absurd (h i)
    rest h (inr i) = i
