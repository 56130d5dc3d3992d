-- A front line whose box misses the box of a zone's corners is apart from the zone, and its ends are not in it. Stands on state_law's NearLines and Saved.
use lib.IntN.{ℤ}
use lib.Signed.{◌≤ℤ◌}
use lib.ListN.{length}
use Prim.Native.Nat.{ℕ, ◌≤◌}
use mathlib.Core.Path.{◌≡◌, refl, sym, ap, ◌∙◌, subst}
use mathlib.Core.Bool.{true, false}
use mathlib.Core.List.{List, [], ◌∷◌}
use mathlib.Core.Logic.{inl}
use native.Mathlib.Omega.{arith}
use Rattle.std.proofs.lemmas.Int.{ints}
use Rattle.std.specs.Prelude.{Some}
use Rattle.std.specs.Option.{option_map_or}
use Rattle.std.specs.List.{AllByRecursion}
use Rattle.grid_geom.specs.declared.Point.{Point}
use Rattle.grid_geom.specs.declared.Bounds.{Bounds}
use Rattle.grid_geom.specs.Closed.{IsEdge}
use Rattle.grid_geom.specs.Polygon.{IsApart}
use Rattle.state_law.specs.State.{IsListed, pair_edge, front_edges}
use Rattle.state_law.specs.Saved.{AreInBox}
use Rattle.state_law.proofs.NearLines.{far_apart}
use Rattle.state_law.proofs.Saved.{point_in_zone}
use Rattle.front_chain.specs.Front.{FrontState, IsFrontState, line_at, is_near, does_meet}
use Rattle.front_chain.proofs.NearLines.{boxes_meet}
use Rattle.free_zone.specs.Zone.{IsZone}
use Rattle.free_zone.specs.InTheWay.{IsInside, IsBeside}
use Rattle.free_zone.proofs.AtNumbers.{at_number}

-- a zone and a box that holds its corners
pub record IsBoxed (zone : List Point) (near : Bounds) : Type 0 where
  pub corners : IsZone zone
  pub box : AreInBox near.lo near.hi zone

-- a box that holds a corner isn't empty
ordered : (lo hi : Point) (cs : List Point) → 3 ≤ length cs → AreInBox lo hi cs → (lo.x ≤ℤ hi.x) × (lo.y ≤ℤ hi.y)
ordered lo hi [] n h = absurd (omega (arith, n))
ordered lo hi (c ∷ cs) n h = (through h.right_of_least.0 h.left_of_greatest.0, through h.above_least.0 h.below_greatest.0)
  where
    through : {u w z : ℤ} → u ≤ℤ w → w ≤ℤ z → u ≤ℤ z
    through {u} {w} {z} h i = omega (arith, ints, h, i)

-- ---- lines of a front
-- apart, where the places are the same
pub moved : (a b p q : Point) (old new : List Point) → a ≡ p → b ≡ q → old ≡ new → IsApart a b old → IsApart p q new
moved a b p q old new e f g k = subst (λ (u : Point). IsApart u q new) e (subst (λ (v : Point). IsApart a v new) f (subst (IsApart a b) g k))

edges_each : (points : List Point) (lines : List (ℕ × ℕ × ℕ)) → AllByRecursion IsEdge (front_edges points lines) → AllByRecursion (λ line. IsEdge (pair_edge points (line.1, line.2))) lines
edges_each points [] h = tt
edges_each points (line ∷ lines) h = (h.0, edges_each points lines h.1)

-- its ends are at different places
pub different_ends : (f : FrontState) (k : ℕ) (ends : ℕ × ℕ) → IsFrontState f → line_at f.lines k ≡ Some ends → IsEdge (pair_edge f.points ends)
different_ends f k ends h e = at_number (λ line. IsEdge (pair_edge f.points (line.1, line.2))) f.lines k ends (edges_each f.points f.lines h.region.edges) e

-- and listed
pub listed_ends : (f : FrontState) (k : ℕ) (ends : ℕ × ℕ) → IsFrontState f → line_at f.lines k ≡ Some ends → IsListed (length f.points) ends.0 × IsListed (length f.points) ends.1
listed_ends f k ends h e = at_number (λ line. IsListed (length f.points) line.1 × IsListed (length f.points) line.2) f.lines k ends h.numbered.lines_listed e

-- a line that isn't near is apart
pub far_beside : (zone : List Point) (f : FrontState) (near : Bounds) (k : ℕ) (ends : ℕ × ℕ) → IsBoxed zone near → IsFrontState f → line_at f.lines k ≡ Some ends → is_near f near k ≡ false → IsBeside zone f ends
far_beside zone f near k ends z h e n = let o = ordered near.lo near.hi zone z.corners.convex.enough z.box in
    far_apart near.lo near.hi zone (pair_edge f.points ends) z.corners.convex z.box (different_ends f k ends h e)
    (λ m. clash (sym n ∙ ap (λ l. option_map_or (λ ends. does_meet near (pair_edge f.points ends)) l false) e ∙ boxes_meet near (pair_edge f.points ends) o.0 o.1 m))
  where
    clash : false ≡ true → ⊥
    clash h = cc

-- and the point from which it goes is not in the zone
pub far_outside : (zone : List Point) (f : FrontState) (near : Bounds) (k : ℕ) (ends : ℕ × ℕ) → IsBoxed zone near → IsFrontState f → line_at f.lines k ≡ Some ends → is_near f near k ≡ false → ¬ (IsInside zone f ends.0)
far_outside zone f near k ends z h e n = λ i. point_in_zone zone (pair_edge f.points ends) (pair_edge f.points ends).a z.corners.convex (different_ends f k ends h e) (inl refl) i (far_beside zone f near k ends z h e n)
