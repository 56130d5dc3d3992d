-- Segments turned upwards, and where they pass a strip between two heights.
--
-- risers_of     the segments that aren't level, turned upwards
-- covers        a riser has a place on its left, at its heights
-- wests, easts  how many risers with a place on their left have a chosen domain to their west, to their east
-- winding_of    the winding number of the chosen domains, by the risers
-- passes        a riser goes from one side of a strip to the other
use Rattle.std.specs.Prelude.{◌≡◌, ◌⊎◌, All, Any, ◌<ℤ◌, ℕ, ◌==◌, nat_lt, Bool, true, false, cond, List, [], ◌∷◌, sum_by, Option, Some, None, ℤ, pos, ◌-ℤ◌, ◌*ℤ◌}
use lib.Signed.{lt_z, le_z}
use Rattle.grid_geom.specs.declared.Point.{Point}
use Rattle.grid_geom.specs.declared.RatPoint.{RatPoint}
use Rattle.grid_geom.specs.declared.Edge.{Edge}
use Rattle.grid_geom.specs.Plane.{orient_rat}
use Rattle.grid_geom.specs.Winding.{and}
use Rattle.geom_check.specs.declared.kinds.Segment.{Segment}
use Rattle.geom_check.specs.declared.risers.Riser.{Riser}
use Rattle.geom_check.specs.Boundary.{point_at}

-- a riser in front, where it is wanted
abbrev pub with_riser : Bool → Riser → List Riser → List Riser
with_riser true r rs = r ∷ rs
with_riser false r rs = rs

-- a segment from its first point upwards, and from its last
abbrev pub upwards : List Point → Segment → Riser
upwards points s = record {
  a = point_at points s.p;
  b = point_at points s.q;
  west = s.left;
  east = s.right;
}

abbrev pub downwards : List Point → Segment → Riser
downwards points s = record {
  a = point_at points s.q;
  b = point_at points s.p;
  west = s.right;
  east = s.left;
}

-- the segments that aren't level, turned upwards
abbrev pub risers_of : List Point → List Segment → List Riser
risers_of points [] = []
risers_of points (s ∷ ss) =
    with_riser (lt_z (point_at points s.p).y (point_at points s.q).y) (upwards points s)
    (with_riser (lt_z (point_at points s.q).y (point_at points s.p).y) (downwards points s)
    (risers_of points ss))

-- q is to the left of the riser's line
abbrev pub is_left : RatPoint → Riser → Bool
is_left q r = lt_z (pos 0) (orient_rat r.a r.b q)

-- q is at the riser's heights, with its lower end and without its upper one
abbrev pub is_beside : RatPoint → Riser → Bool
is_beside q r = and (le_z (r.a.y *ℤ q.k) q.y) (lt_z q.y (r.b.y *ℤ q.k))

abbrev pub covers : RatPoint → Riser → Bool
covers q r = and (is_beside q r) (is_left q r)

abbrev pub one_if : Bool → ℕ
one_if b = cond b 1 0

-- how many risers with q on their left have a chosen domain to their west, and to their east
abbrev pub wests : (ℕ → Bool) → RatPoint → List Riser → ℕ
wests chosen q rs = sum_by (λ r. one_if (and (covers q r) (chosen r.west))) rs

abbrev pub easts : (ℕ → Bool) → RatPoint → List Riser → ℕ
easts chosen q rs = sum_by (λ r. one_if (and (covers q r) (chosen r.east))) rs

-- the winding number of the chosen domains, all added up, by the risers
abbrev pub winding_of : (ℕ → Bool) → RatPoint → List Riser → ℤ
winding_of chosen q rs = pos (wests chosen q rs) -ℤ pos (easts chosen q rs)

-- one domain, or all of them
abbrev pub is_chosen : Option ℕ → ℕ → Bool
is_chosen (Some domain) n = n == domain
is_chosen None n = nat_lt 0 n

-- the riser goes from one side of a strip to the other
abbrev pub passes : ℤ → ℤ → Riser → Bool
passes low high r = and (le_z r.a.y low) (le_z high r.b.y)

-- the riser is the edge, turned upwards
pub data IsRiserOf (e : Edge) (r : Riser) : Type 0 where
  rising : e.a ≡ r.a → e.b ≡ r.b → e.a.y <ℤ e.b.y → IsRiserOf e r
  falling : e.a ≡ r.b → e.b ≡ r.a → e.b.y <ℤ e.a.y → IsRiserOf e r

-- the risers are the edges that aren't level, turned upwards
pub record AreRisersOf (edges : List Edge) (risers : List Riser) : Type 0 where
  pub each_edge : All (λ e. (e.a.y ≡ e.b.y) ⊎ Any (IsRiserOf e) risers) edges
  pub each_riser : All (λ r. Any (λ e. IsRiserOf e r) edges) risers
