-- In a whole mesh no directed side belongs to two elements. Two elements with one side have a common point (law Overlap);
-- each winds once round it, so its domain's boundary would wind twice, or those of two domains once. Stands on Partition.
use Rattle.std.proofs.Common.{◌≡◌, ◌⊎◌, ℕ, zero, suc, ◌<◌, ◌==◌, nat_eq, Bool, true, false, cond, List, [], ◌∷◌, ◌++◌, length, map, filter, slice_index_or, inl, inr, refl, sym, ◌∙◌, ap, subst, arith}
use lib.IntN.{ℤ, pos, ◌+ℤ◌}
use lib.Signed.{◌≤ℤ◌}
use Rattle.std.proofs.lemmas.Int.{ints}
use Rattle.std.proofs.lemmas.Bool.{cases_order}
use Rattle.std.specs.List.{AllByRecursion, Contains}
use Rattle.std.proofs.lemmas.List.Elements.{recursion_from_All, All-from_recursion, All-map}
use Rattle.grid_geom.specs.declared.Point.{Point}
use Rattle.grid_geom.specs.declared.RatPoint.{RatPoint}
use Rattle.grid_geom.specs.declared.Edge.{Edge}
use Rattle.grid_geom.specs.Plane.{IsRational}
use Rattle.grid_geom.specs.Sides.{IsOnClosed}
use Rattle.grid_geom.specs.Polygon.{sides}
use Rattle.grid_geom.specs.Winding.{wind}
use Rattle.grid_geom.specs.Closed.{IsEdge, IsOff}
use Rattle.wind_law.specs.Near.{HaveCommonPoint}
use Rattle.wind_law.proofs.Polygons.{polygon_inside}
use Rattle.wind_law.proofs.Overlap.{overlap}
use Rattle.state_law.specs.Kept.{all_sides, IsNoneOrOne}
use Rattle.state_law.specs.State.{corners_of}
use Rattle.state_law.proofs.Lists.{all_append, all_first, all_second}
use Rattle.state_law.proofs.SidesFree.{sides_edges}
use Rattle.std.proofs.lemmas.List.{get_or_default}
use Rattle.geom_check.specs.declared.kinds.Segment.{Segment}
use Rattle.geom_check.specs.Accepted.{IsZeroOrOne}
use Rattle.geom_check.specs.Boundary.{boundary, edge_of, edges_of}
use Rattle.geom_check.specs.Geometry.{PlanarMap, IsGeometry}
use Rattle.vol_format.specs.declared.MeshElement.{MeshElement}
use Rattle.vol_format.specs.declared.Mesh.{Mesh}
use Rattle.mesh_check.specs.Parts.{NamesItsPoints, polygons_in}
use Rattle.mesh_check.specs.Whole.{IsTurned}
use Rattle.mesh_check.specs.Tight.{HasNoOtherFault}
use Rattle.mesh_check.specs.Partition.{winds}
use Rattle.mesh_check.proofs.Walks.{two_ends}
use Rattle.mesh_check.proofs.Domains.{domains_above}
use Rattle.mesh_check.proofs.Partition.{sums, one_element}

-- ---- how often the elements of a domain wind round a place
-- an element's winding number
abbrev turns : List Point → RatPoint → MeshElement → ℤ
turns points q e = wind q (sides (corners_of points e.corners))

abbrev AreNotNegative : List Point → RatPoint → List MeshElement → Type 0
AreNotNegative points q elements = AllByRecursion (λ e. pos 0 ≤ℤ turns points q e) elements

-- one element and the others
next_winds : (points : List Point) (q : RatPoint) (domain : ℕ) (e : MeshElement) (es : List MeshElement) → winds q (polygons_in points domain (e ∷ es)) ≡ cond (nat_eq e.domain domain) (turns points q e) (pos 0) +ℤ winds q (polygons_in points domain es)
next_winds points q domain e es = chosen (nat_eq e.domain domain)
  where
    nothing : (z : ℤ) → z ≡ pos 0 +ℤ z
    nothing z = omega (arith, ints)

    chosen : (b : Bool) → winds q (map (λ (e : MeshElement). corners_of points e.corners) (cond b (e ∷ filter (λ (e : MeshElement). e.domain == domain) es) (filter (λ (e : MeshElement). e.domain == domain) es))) ≡ cond b (turns points q e) (pos 0) +ℤ winds q (polygons_in points domain es)
    chosen true = refl
    chosen false = nothing (winds q (polygons_in points domain es))

cond_none : (b : Bool) (x : ℤ) → pos 0 ≤ℤ x → pos 0 ≤ℤ cond b x (pos 0)
cond_none true x h = h
cond_none false x h = omega (arith, ints)

cond_one : (d : ℕ) (e : ℕ) (x : ℤ) → e ≡ d → x ≡ pos 1 → cond (nat_eq e d) x (pos 0) ≡ pos 1
cond_one d e x f g = ap (λ (b : Bool). cond b x (pos 0)) (same e d f) ∙ g
  where
    same : (e d : ℕ) → e ≡ d → nat_eq e d ≡ true
    same e d f = grind arith

-- added up, none is negative
none_less : (points : List Point) (q : RatPoint) (domain : ℕ) (es : List MeshElement) → AreNotNegative points q es → pos 0 ≤ℤ winds q (polygons_in points domain es)
none_less points q domain [] h = omega (arith, ints)
none_less points q domain (e ∷ es) h = added _ _ _ (next_winds points q domain e es) (cond_none (nat_eq e.domain domain) (turns points q e) h.0) (none_less points q domain es h.1)
  where
    added : (s x y : ℤ) → s ≡ x +ℤ y → pos 0 ≤ℤ x → pos 0 ≤ℤ y → pos 0 ≤ℤ s
    added s x y e h k = omega (arith, ints)

-- where the element at k winds once
one_at : (points : List Point) (q : RatPoint) (domain : ℕ) (es : List MeshElement) (k : ℕ) (d : MeshElement) → AreNotNegative points q es → k < length es → (slice_index_or es k d).domain ≡ domain → turns points q (slice_index_or es k d) ≡ pos 1 → pos 1 ≤ℤ winds q (polygons_in points domain es)
one_at points q domain [] k d h l e f = absurd (omega (arith, l))
one_at points q domain (x ∷ es) zero d h l e f = added _ _ _ (next_winds points q domain x es) (cond_one domain x.domain (turns points q x) e f) (none_less points q domain es h.1)
  where
    added : (s x y : ℤ) → s ≡ x +ℤ y → x ≡ pos 1 → pos 0 ≤ℤ y → pos 1 ≤ℤ s
    added s x y e h k = omega (arith, ints)
one_at points q domain (x ∷ es) (suc k) d h l e f = added _ _ _ (next_winds points q domain x es) (cond_none (nat_eq x.domain domain) (turns points q x) h.0) (one_at points q domain es k d h.1 (omega (arith, l)) e f)
  where
    added : (s x y : ℤ) → s ≡ x +ℤ y → pos 0 ≤ℤ x → pos 1 ≤ℤ y → pos 1 ≤ℤ s
    added s x y e h k = omega (arith, ints)

-- where two do
two_at : (points : List Point) (q : RatPoint) (domain : ℕ) (es : List MeshElement) (i k : ℕ) (d : MeshElement) → AreNotNegative points q es → i < k → k < length es → (slice_index_or es i d).domain ≡ domain → (slice_index_or es k d).domain ≡ domain
    → turns points q (slice_index_or es i d) ≡ pos 1 → turns points q (slice_index_or es k d) ≡ pos 1 → pos 2 ≤ℤ winds q (polygons_in points domain es)
two_at points q domain [] i k d h o l e f x y = absurd (omega (arith, l))
two_at points q domain (z ∷ es) i zero d h o l e f x y = absurd (omega (arith, o))
two_at points q domain (z ∷ es) zero (suc k) d h o l e f x y = added _ _ _ (next_winds points q domain z es) (cond_one domain z.domain (turns points q z) e x) (one_at points q domain es k d h.1 (omega (arith, l)) f y)
  where
    added : (s x y : ℤ) → s ≡ x +ℤ y → x ≡ pos 1 → pos 1 ≤ℤ y → pos 2 ≤ℤ s
    added s x y e h k = omega (arith, ints)
two_at points q domain (z ∷ es) (suc i) (suc k) d h o l e f x y = added _ _ _ (next_winds points q domain z es) (cond_none (nat_eq z.domain domain) (turns points q z) h.0) (two_at points q domain es i k d h.1 (omega (arith, o)) (omega (arith, l)) e f x y)
  where
    added : (s x y : ℤ) → s ≡ x +ℤ y → pos 0 ≤ℤ x → pos 2 ≤ℤ y → pos 2 ≤ℤ s
    added s x y e h k = omega (arith, ints)

-- ---- all edges of geometry and mesh

segment_edges : (g : PlanarMap) → IsGeometry g → AllByRecursion IsEdge (edges_of g.points g.segments)
segment_edges g h = recursion_from_All IsEdge (edges_of g.points g.segments) (All-map IsEdge (edge_of g.points) g.segments (λ k s l. ends k s l))
  where
    ends : (k : ℕ) (s : Segment) → k < length g.segments → IsEdge (edge_of g.points (slice_index_or g.segments k s))
    ends k s l = subst (λ (t : Segment). IsEdge (edge_of g.points t)) (get_or_default g.segments k _ s l) (two_ends g k h l)

side_edges_all : (points : List Point) (es : List MeshElement) → AllByRecursion (IsTurned points) es → AllByRecursion IsEdge (all_sides (map (λ (e : MeshElement). corners_of points e.corners) es))
side_edges_all points [] h = tt
side_edges_all points (e ∷ es) h = all_append IsEdge (sides (corners_of points e.corners)) (all_sides (map (λ (e : MeshElement). corners_of points e.corners) es)) (sides_edges (corners_of points e.corners) h.0) (side_edges_all points es h.1)

-- off all sides no element winds a negative number of times
not_negative : (points : List Point) (q : RatPoint) (es : List MeshElement) → IsRational q → AllByRecursion (IsTurned points) es → IsOff q (all_sides (map (λ (e : MeshElement). corners_of points e.corners) es)) → AreNotNegative points q es
not_negative points q [] k h o = tt
not_negative points q (e ∷ es) k h o = (
  positive (turns points q e) (one_element q (corners_of points e.corners) k h.0 (all_first (λ e. ¬ (IsOnClosed q e.a e.b)) (sides (corners_of points e.corners)) (all_sides (map (λ (e : MeshElement). corners_of points e.corners) es)) o)),
  not_negative points q es k h.1 (all_second (λ e. ¬ (IsOnClosed q e.a e.b)) (sides (corners_of points e.corners)) (all_sides (map (λ (e : MeshElement). corners_of points e.corners) es)) o),
)
  where
    positive : (z : ℤ) → IsNoneOrOne z → pos 0 ≤ℤ z
    positive z (inl e) = omega (arith, ints)
    positive z (inr e) = omega (arith, ints)

-- ---- the law
not_two : (z : ℤ) → IsZeroOrOne z → pos 2 ≤ℤ z → ⊥
not_two z (inl e) h = omega (arith, ints)
not_two z (inr e) h = omega (arith, ints)

is_one : (z : ℤ) → IsZeroOrOne z → pos 1 ≤ℤ z → z ≡ pos 1
is_one z (inl e) h = absurd (omega (arith, ints))
is_one z (inr e) h = e

-- all edges of geometry and mesh
abbrev pub all_edges : PlanarMap → Mesh → List Edge
all_edges g m = edges_of g.points g.segments ++ all_sides (map (λ (e : MeshElement). corners_of m.points e.corners) m.elements)

pub edges_directed : (g : PlanarMap) (m : Mesh) → IsGeometry g → HasNoOtherFault g m → AllByRecursion IsEdge (all_edges g m)
edges_directed g m h w = all_append IsEdge (edges_of g.points g.segments) (all_sides (map (λ (e : MeshElement). corners_of m.points e.corners) m.elements)) (segment_edges g h) (side_edges_all m.points m.elements (recursion_from_All (IsTurned m.points) m.elements w.turned))

-- no place is in two open elements
pub no_common : (g : PlanarMap) (m : Mesh) (i k : ℕ) (d : MeshElement) → IsGeometry g → NamesItsPoints m → HasNoOtherFault g m → i < k → k < length m.elements → ¬ (HaveCommonPoint (corners_of m.points (slice_index_or m.elements i d).corners) (corners_of m.points (slice_index_or m.elements k d).corners) (all_edges g m))
no_common g m i k d h n w o l c = by_domain (cases_order a.domain b.domain)
  where
    a : MeshElement
    a = slice_index_or m.elements i d

    b : MeshElement
    b = slice_index_or m.elements k d

    all : List Edge
    all = all_sides (map (λ (e : MeshElement). corners_of m.points e.corners) m.elements)

    above : (j : ℕ) → j < length m.elements → 0 < (slice_index_or m.elements j d).domain
    above j l = All-from_recursion (λ e. 0 < e.domain) m.elements (domains_above g m.elements h w.domains) j d l

    q : RatPoint
    q = c.at

    off_segments : IsOff q (edges_of g.points g.segments)
    off_segments = all_first (λ e. ¬ (IsOnClosed q e.a e.b)) (edges_of g.points g.segments) all c.off

    free : AreNotNegative m.points q m.elements
    free = not_negative m.points q m.elements c.rational (recursion_from_All (IsTurned m.points) m.elements w.turned) (all_second (λ e. ¬ (IsOnClosed q e.a e.b)) (edges_of g.points g.segments) all c.off)

    once_a : turns m.points q a ≡ pos 1
    once_a = polygon_inside (corners_of m.points a.corners) q (w.turned i d (omega (arith, o, l))) c.rational c.in_first

    once_b : turns m.points q b ≡ pos 1
    once_b = polygon_inside (corners_of m.points b.corners) q (w.turned k d l) c.rational c.in_second

    side : (domain : ℕ) → 0 < domain → IsZeroOrOne (winds q (polygons_in m.points domain m.elements))
    side domain z = subst IsZeroOrOne (sums g m domain q n w z c.rational) (h.planar.winding domain z q c.rational off_segments)

    in_one : (domain j : ℕ) → 0 < domain → j < length m.elements → (slice_index_or m.elements j d).domain ≡ domain → turns m.points q (slice_index_or m.elements j d) ≡ pos 1 → wind q (boundary g.points domain g.segments) ≡ pos 1
    in_one domain j z l e f = sums g m domain q n w z c.rational ∙ is_one (winds q (polygons_in m.points domain m.elements)) (side domain z) (one_at m.points q domain m.elements j d free l e f)

    by_domain : (a.domain ≡ b.domain) ⊎ ((a.domain < b.domain) ⊎ (b.domain < a.domain)) → ⊥
    by_domain (inl e) = not_two _ (side a.domain (above i (omega (arith, o, l)))) (two_at m.points q a.domain m.elements i k d free o l refl (sym e) once_a once_b)
    by_domain (inr (inl e)) = h.planar.separate q c.rational off_segments (record { c = a.domain; d = b.domain; positive = above i (omega (arith, o, l)); ordered = e; in_c = in_one a.domain i (above i (omega (arith, o, l))) (omega (arith, o, l)) refl once_a; in_d = in_one b.domain k (above k l) l refl once_b })
    by_domain (inr (inr e)) = h.planar.separate q c.rational off_segments (record { c = b.domain; d = a.domain; positive = above k l; ordered = e; in_c = in_one b.domain k (above k l) l refl once_b; in_d = in_one a.domain i (above i (omega (arith, o, l))) (omega (arith, o, l)) refl once_a })

pub no_shared_side : (g : PlanarMap) (m : Mesh) (i k : ℕ) (d : MeshElement) (s : Edge) → IsGeometry g → NamesItsPoints m → HasNoOtherFault g m → i < k → k < length m.elements
    → Contains (sides (corners_of m.points (slice_index_or m.elements i d).corners)) s → ¬ (Contains (sides (corners_of m.points (slice_index_or m.elements k d).corners)) s)
no_shared_side g m i k d s h n w o l first second = no_common g m i k d h n w o l
    (overlap (corners_of m.points (slice_index_or m.elements i d).corners) (corners_of m.points (slice_index_or m.elements k d).corners) s (all_edges g m) (w.turned i d (omega (arith, o, l))) (w.turned k d l) first second (edges_directed g m h w))
