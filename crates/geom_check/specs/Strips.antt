-- The strips between the heights of the ends of edges, and the gaps between the edges that pass a strip.
--
-- IsStrip       two successive heights
-- IsCrossing    where an edge crosses the middle height of a strip
-- IsGap         two edges that pass a strip, one right of the other, with none between them
-- IsGapMiddle   the middle of a gap
-- IsWitness     the middle of the leftmost gap with a fault in the lowest strip that has one, with the least k
use Rattle.std.specs.Prelude.{◌≡◌, ◌⊎◌, List, Any, pos, ℤ, ◌+ℤ◌, ◌*ℤ◌, ◌<ℤ◌, ◌≤ℤ◌}
use Rattle.grid_geom.specs.declared.RatPoint.{RatPoint}
use Rattle.grid_geom.specs.declared.Edge.{Edge}
use Rattle.grid_geom.specs.Plane.{orient_rat, IsRational}
use Rattle.wind_law.specs.Near.{IsSamePlace}

-- some edge ends at this height
abbrev pub IsHeight : List Edge → ℤ → Type 0
IsHeight edges h = Any (λ e. (e.a.y ≡ h) ⊎ (e.b.y ≡ h)) edges

-- two successive heights
pub record IsStrip (edges : List Edge) (low high : ℤ) : Type 0 where
  pub low_is : IsHeight edges low
  pub high_is : IsHeight edges high
  pub ordered : low <ℤ high
  pub successive : (h : ℤ) → IsHeight edges h → low <ℤ h → h <ℤ high → ⊥

-- the edge goes from one side of the strip to the other
pub data Passes (low high : ℤ) (e : Edge) : Type 0 where
  upwards : e.a.y ≤ℤ low → high ≤ℤ e.b.y → Passes low high e
  downwards : e.b.y ≤ℤ low → high ≤ℤ e.a.y → Passes low high e

-- q is at the middle height of the strip
pub record IsMiddleHeight (low high : ℤ) (q : RatPoint) : Type 0 where
  pub rational : IsRational q
  pub middle : pos 2 *ℤ q.y ≡ (low +ℤ high) *ℤ q.k

-- the edge passes the strip, and crosses its middle height at q
pub record IsCrossing (low high : ℤ) (e : Edge) (q : RatPoint) : Type 0 where
  pub passes : Passes low high e
  pub height : IsMiddleHeight low high q
  pub straight : orient_rat e.a e.b q ≡ pos 0

-- q is to the left of r
abbrev pub IsLeftOf : RatPoint → RatPoint → Type 0
IsLeftOf q r = (q.x *ℤ r.k) <ℤ (r.x *ℤ q.k)

-- two edges that cross the middle height at q and r, with no crossing between them
pub record IsGap (edges : List Edge) (low high : ℤ) (q r : RatPoint) : Type 0 where
  pub first : Any (λ e. IsCrossing low high e q) edges
  pub second : Any (λ e. IsCrossing low high e r) edges
  pub ordered : IsLeftOf q r
  pub successive : (m : RatPoint) → Any (λ e. IsCrossing low high e m) edges → IsLeftOf q m
      → IsLeftOf m r → ⊥

-- m is in the middle between q and r
abbrev pub IsBetween : RatPoint → RatPoint → RatPoint → Type 0
IsBetween m q r = pos 2 *ℤ m.x *ℤ q.k *ℤ r.k ≡ (q.x *ℤ r.k +ℤ r.x *ℤ q.k) *ℤ m.k

-- m is the middle of a gap
pub record IsGapMiddle (edges : List Edge) (m : RatPoint) : Type 0 where
  pub low : ℤ
  pub high : ℤ
  pub strip : IsStrip edges low high
  pub left : RatPoint
  pub right : RatPoint
  pub gap : IsGap edges low high left right
  pub height : IsMiddleHeight low high m
  pub between : IsBetween m left right

-- r is lower than q, or at its height and to its left
abbrev pub IsBefore : RatPoint → RatPoint → Type 0
IsBefore r q = ((r.y *ℤ q.k) <ℤ (q.y *ℤ r.k)) ⊎ ((r.y *ℤ q.k ≡ q.y *ℤ r.k) × IsLeftOf r q)

-- the middle of the leftmost gap with a fault in the lowest strip that has one, with the least k
pub record IsWitness (Fault : RatPoint → Type 0) (edges : List Edge) (at : RatPoint) : Type 0 where
  pub middle : IsGapMiddle edges at
  pub fault : Fault at
  pub first : (m : RatPoint) → IsGapMiddle edges m → IsBefore m at → ¬ Fault m
  pub least : (r : RatPoint) → IsRational r → IsSamePlace at r → at.k ≤ℤ r.k
