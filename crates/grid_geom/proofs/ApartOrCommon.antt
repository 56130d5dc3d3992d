-- A segment is apart from an open polygon, and then they have no point in common (`apart_has_none`), or they have one (`apart_or_common`).
-- A polygon is a list of lines here. Stands on Common, Polygon and Means.
use lib.IntN.{ℤ, pos, ◌-ℤ◌}
use lib.Signed.{◌<ℤ◌, ◌≤ℤ◌}
use mathlib.Core.Path.{◌≡◌, subst}
use mathlib.Core.List.{List, [], ◌∷◌}
use mathlib.Core.Logic.{◌⊎◌, inl, inr}
use native.Mathlib.Omega.{arith}
use Rattle.std.proofs.lemmas.Int.{ints}
use Rattle.std.specs.List.{AllByRecursion}
use Rattle.grid_geom.specs.declared.Point.{Point}
use Rattle.grid_geom.specs.declared.RatPoint.{RatPoint}
use Rattle.grid_geom.specs.Line.{Line, side, whole, through}
use Rattle.grid_geom.specs.Segment.{IsOnSegment}
use Rattle.grid_geom.proofs.Signs.{either}
use Rattle.grid_geom.proofs.Lines.{through_is, orient_back}
use Rattle.grid_geom.proofs.Means.{mean_right, on_line}
use Rattle.grid_geom.proofs.Near.{IsDirected}
use Rattle.grid_geom.proofs.Common.{IsCommon, Reached, common_point}
use Rattle.grid_geom.proofs.Polygon.{IsPolygon, polygon_sides, AreLeftOf, polygon_left, sum_of, sum_rational, IsSomeLeft, sum_left}

pub record HasAllLeft (l : Line) (o u : Point) (ws : List Point) : Type 0 where
  pub o_left : pos 0 ≤ℤ side l (whole o)
  pub u_left : pos 0 ≤ℤ side l (whole u)
  pub others_left : AreLeftOf l ws

-- strictly convex: each side has all corners on its closed left, and one on its open left
pub record IsStrict (o u : Point) (ws : List Point) : Type 0 where
  pub polygon : IsPolygon o u ws
  pub all_left : AllByRecursion (λ l. HasAllLeft l o u ws) (polygon_sides o u ws)
  pub some_left : AllByRecursion (λ l. IsSomeLeft l o (u ∷ ws)) (polygon_sides o u ws)

abbrev pub IsBeyondSome : Point → Point → List Line → Type 0
IsBeyondSome a b [] = ⊥
IsBeyondSome a b (l ∷ ls) = ((side l (whole a) ≤ℤ pos 0) × (side l (whole b) ≤ℤ pos 0)) ⊎ IsBeyondSome a b ls

pub data IsApartSegment (o u : Point) (ws : List Point) (a b : Point) : Type 0 where
  beyond : IsBeyondSome a b (polygon_sides o u ws) → IsApartSegment o u ws a b
  all_left : HasAllLeft (through a b) o u ws → IsApartSegment o u ws a b
  all_right : HasAllLeft (through b a) o u ws → IsApartSegment o u ws a b

-- ---- apart: no common point
abbrev IsInside : List Line → RatPoint → Type 0
IsInside ls q = AllByRecursion (λ l. pos 0 <ℤ side l q) ls

not_beyond : (ls : List Line) (a b : Point) (m : RatPoint) → pos 0 <ℤ m.k → IsOnSegment m (whole a) (whole b) → IsBeyondSome a b ls → IsInside ls m → ⊥
not_beyond [] a b m km on h i = h
not_beyond (l ∷ ls) a b m km on (inl h) i = clash i.0 (mean_right l m (whole a) (whole b) on km (omega (arith, ints)) (omega (arith, ints)) h.0 h.1)
  where
    clash : {z : ℤ} → pos 0 <ℤ z → z ≤ℤ pos 0 → ⊥
    clash {z} h j = omega (arith, ints)
not_beyond (l ∷ ls) a b m km on (inr h) i = not_beyond ls a b m km on h i.1

not_left : (o u : Point) (ws : List Point) (a b : Point) (m : RatPoint) → IsPolygon o u ws → IsDirected (through a b) → pos 0 <ℤ m.k → side (through a b) m ≤ℤ pos 0 → HasAllLeft (through a b) o u ws → IsInside (polygon_sides o u ws) m → ⊥
not_left o u ws a b m p d km z h i = clash (polygon_left (through a b) o u ws m p d h.o_left h.u_left h.others_left i) z
  where
    clash : {z : ℤ} → pos 0 <ℤ z → z ≤ℤ pos 0 → ⊥
    clash {z} h j = omega (arith, ints)

pub apart_has_none : (o u : Point) (ws : List Point) (a b : Point) (m : RatPoint) → IsPolygon o u ws → IsDirected (through a b) → IsDirected (through b a) → IsApartSegment o u ws a b → pos 0 <ℤ m.k → IsOnSegment m (whole a) (whole b) → IsInside (polygon_sides o u ws) m → ⊥
apart_has_none o u ws a b m p d d' (beyond h) km on i = not_beyond (polygon_sides o u ws) a b m km on h i
apart_has_none o u ws a b m p d d' (all_left h) km on i = not_left o u ws a b m p d km (on_line a b m km on).0 h i
apart_has_none o u ws a b m p d d' (all_right h) km on i = not_left o u ws b a m p d' km (on_line a b m km on).1 h i

-- ---- not apart: a common point
beyond_or_reached : (a b : Point) (ls : List Line) → IsBeyondSome a b ls ⊎ Reached a b ls
beyond_or_reached a b [] = inr tt
beyond_or_reached a b (l ∷ ls) = elim (beyond_or_reached a b ls) [
  | inl h ↦ inl (inr h)
  | inr h ↦ elim (either (side l (whole a)) (pos 0)) [
    | inr i ↦ inr (inl i, h)
    | inl i ↦ elim (either (side l (whole b)) (pos 0)) [ inr j ↦ inr (inr j, h) | inl j ↦ inl (inl (i, j)) ]
  ]
]

-- a corner strictly right of a line, or all on its closed left
pub record IsRightCorner (l : Line) (o u : Point) (ws : List Point) : Type 0 where
  pub corner : Point
  pub right : side l (whole corner) <ℤ pos 0
  pub closed : (s : Line) → HasAllLeft s o u ws → pos 0 ≤ℤ side s (whole corner)

others : (l : Line) (o u : Point) (vs ws : List Point) → ((s : Line) → AreLeftOf s vs → AreLeftOf s ws) → IsRightCorner l o u vs ⊎ AreLeftOf l ws
others l o u vs [] h = inr tt
others l o u vs (w ∷ ws) h = elim (either (pos 0) (side l (whole w))) [
  | inr i ↦ inl (record { corner = w; right = i; closed = λ s a. (h s a.others_left).0 })
  | inl i ↦ elim (others l o u vs ws (λ s a. (h s a).1)) [ inl r ↦ inl r | inr r ↦ inr (i, r) ]
]

right_or_left : (l : Line) (o u : Point) (ws : List Point) → IsRightCorner l o u ws ⊎ HasAllLeft l o u ws
right_or_left l o u ws = elim (either (pos 0) (side l (whole o))) [
  | inr i ↦ inl (record { corner = o; right = i; closed = λ s a. a.o_left })
  | inl i ↦ elim (either (pos 0) (side l (whole u))) [
    | inr j ↦ inl (record { corner = u; right = j; closed = λ s a. a.u_left })
    | inl j ↦ elim (others l o u ws ws (λ s a. a)) [ inl r ↦ inl r | inr r ↦ inr (record { o_left = i; u_left = j; others_left = r }) ]
  ]
]

closed_all : (l : Line) (o u : Point) (ws : List Point) (r : IsRightCorner l o u ws) (ls : List Line) → AllByRecursion (λ s. HasAllLeft s o u ws) ls → AllByRecursion (λ s. pos 0 ≤ℤ side s (whole r.corner)) ls
closed_all l o u ws r [] h = tt
closed_all l o u ws r (s ∷ ls) h = (r.closed s h.0, closed_all l o u ws r ls h.1)

pub centre_all : (o u : Point) (ws : List Point) (ls : List Line) → AllByRecursion (λ s. HasAllLeft s o u ws) ls → AllByRecursion (λ s. IsSomeLeft s o (u ∷ ws)) ls → AllByRecursion (λ s. pos 0 <ℤ side s (sum_of o (u ∷ ws))) ls
centre_all o u ws [] h j = tt
centre_all o u ws (s ∷ ls) h j = (sum_left s o (u ∷ ws) h.0.o_left (h.0.u_left, h.0.others_left) j.0, centre_all o u ws ls h.1 j.1)

pub apart_or_common : (o u : Point) (ws : List Point) (a b : Point) → IsStrict o u ws → ¬ (a ≡ b) → IsApartSegment o u ws a b ⊎ IsCommon (polygon_sides o u ws) a b
apart_or_common o u ws a b v n = elim (beyond_or_reached a b (polygon_sides o u ws)) [
  | inl h ↦ inl (beyond h)
  | inr r ↦ elim (right_or_left (through a b) o u ws) [
    | inr h ↦ inl (all_left h)
    | inl d ↦ elim (right_or_left (through b a) o u ws) [
      | inr h ↦ inl (all_right h)
      | inl t ↦ inr (common_point (polygon_sides o u ws) (sum_of o (u ∷ ws)) (whole t.corner) (whole d.corner) a b n (sum_rational o (u ∷ ws)) (omega (arith, ints)) (omega (arith, ints))
          (centre_all o u ws (polygon_sides o u ws) v.all_left v.some_left)
          (closed_all (through b a) o u ws t (polygon_sides o u ws) v.all_left) (closed_all (through a b) o u ws d (polygon_sides o u ws) v.all_left)
          (left (through_is b a (whole t.corner)) (orient_back a b (whole t.corner)) t.right) (subst (λ (z : ℤ). z <ℤ pos 0) (through_is a b (whole d.corner)) d.right) r)
    ]
  ]
]
  where
    left : {x y z : ℤ} → x ≡ y → y ≡ pos 0 -ℤ z → x <ℤ pos 0 → pos 0 <ℤ z
    left {x} {y} {z} e f h = omega (arith, ints)
