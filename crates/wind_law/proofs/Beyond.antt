-- A closed list of edges that lies on one closed side of a line winds 0 times round each point strictly on the other side.
-- Stands on Uncrossed (the crossing at an edge that a line parts from q) and ClosedSums.
use lib.IntN.{ℤ, pos, ◌+ℤ◌, ◌-ℤ◌}
use lib.Signed.{◌<ℤ◌, ◌≤ℤ◌}
use mathlib.Core.Path.{◌≡◌, refl, ap, ◌∙◌, subst}
use mathlib.Core.List.{List, [], ◌∷◌}
use mathlib.Core.Logic.{inl, inr}
use native.Mathlib.Omega.{arith}
use Rattle.std.proofs.lemmas.Int.{ints}
use Rattle.std.specs.List.{AllByRecursion}
use Rattle.grid_geom.specs.declared.Point.{Point}
use Rattle.grid_geom.specs.declared.RatPoint.{RatPoint}
use Rattle.grid_geom.specs.declared.Edge.{Edge}
use Rattle.grid_geom.specs.Plane.{orient, orient_rat, IsRational}
use Rattle.grid_geom.specs.Line.{Line, side, whole, through}
use Rattle.grid_geom.specs.Winding.{wind}
use Rattle.grid_geom.specs.Closed.{IsClosed}
use Rattle.grid_geom.proofs.Lines.{through_is, orient_whole, orient_back}
use Rattle.grid_geom.proofs.Signs.{either}
use Rattle.wind_law.proofs.Uncrossed.{cross_right, cross_left, tops}
use Rattle.wind_law.proofs.ClosedSums.{gain, gain_closed}

-- the edge is on the closed right side of the line
pub record IsRightOf (l : Line) (e : Edge) : Type 0 where
  pub start_right : side l (whole e.a) ≤ℤ pos 0
  pub end_right : side l (whole e.b) ≤ℤ pos 0

by_heights : (l : Line) (q : RatPoint) (es : List Edge) → IsRational q → pos 0 <ℤ side l q → AllByRecursion (IsRightOf l) es → l.a <ℤ pos 0 → wind q es ≡ gain (tops q) es
by_heights l q [] kq h all n = refl
by_heights l q (e ∷ es) kq h all n = ap (λ (z : ℤ). z +ℤ wind q es) (cross_right l q e all.0.start_right all.0.end_right h kq.positive n) ∙ ap (λ (z : ℤ). (tops q e.b -ℤ tops q e.a) +ℤ z) (by_heights l q es kq h all.1 n)

none_crossed : (l : Line) (q : RatPoint) (es : List Edge) → IsRational q → pos 0 <ℤ side l q → AllByRecursion (IsRightOf l) es → pos 0 ≤ℤ l.a → wind q es ≡ pos 0
none_crossed l q [] kq h all n = refl
none_crossed l q (e ∷ es) kq h all n = ap (λ (z : ℤ). z +ℤ wind q es) (cross_left l q e all.0.start_right all.0.end_right h kq.positive n) ∙ ap (λ (z : ℤ). pos 0 +ℤ z) (none_crossed l q es kq h all.1 n)

pub wind_beyond : (l : Line) (q : RatPoint) (es : List Edge) → IsRational q → IsClosed es → pos 0 <ℤ side l q → AllByRecursion (IsRightOf l) es → wind q es ≡ pos 0
wind_beyond l q es kq c h all = elim (either (pos 0) l.a) [
  | inl n ↦ none_crossed l q es kq h all n
  | inr n ↦ by_heights l q es kq h all n ∙ gain_closed (tops q) es c
]

-- ---- the same by the line through two points c and d, with the list on its closed left and q strictly right
pub record IsLeftOf (c d : Point) (e : Edge) : Type 0 where
  pub start_left : pos 0 ≤ℤ orient c d e.a
  pub end_left : pos 0 ≤ℤ orient c d e.b

turned : (c d : Point) (es : List Edge) → AllByRecursion (IsLeftOf c d) es → AllByRecursion (IsRightOf (through d c)) es
turned c d [] h = tt
turned c d (e ∷ es) h = (record { start_right = right e.a h.0.start_left; end_right = right e.b h.0.end_left }, turned c d es h.1)
  where
    right : (p : Point) → pos 0 ≤ℤ orient c d p → side (through d c) (whole p) ≤ℤ pos 0
    right p h = omega (arith, ints, subst (λ (z : ℤ). side (through d c) (whole p) ≡ pos 0 -ℤ z) (orient_whole c d p) (through_is d c (whole p) ∙ orient_back c d (whole p)))

pub wind_right_of : (c d : Point) (q : RatPoint) (es : List Edge) → IsRational q → IsClosed es → orient_rat c d q <ℤ pos 0 → AllByRecursion (IsLeftOf c d) es → wind q es ≡ pos 0
wind_right_of c d q es kq cl n all = wind_beyond (through d c) q es kq cl left (turned c d es all)
  where
    left : pos 0 <ℤ side (through d c) q
    left = omega (arith, ints, through_is d c q ∙ orient_back c d q)
