-- Where elements and boundaries agree, each side has its reverse in an element too, or is an edge row. The element of a
-- corner in an open side reaches to the left of the side or of its reverse, and there it would overlap another element.
-- So where no point is in an open edge row, no corner hangs, and in a tight mesh no point does.
-- Stands on Touching and NoSharedSide.
use Rattle.std.proofs.Common.{◌≡◌, ◌⊎◌, ℕ, zero, suc, ◌+◌, ◌-◌, ◌<◌, ◌≤◌, ◌==◌, nat_eq, Bool, true, false, cond, List, [], ◌∷◌, ◌++◌, length, map, filter, slice_index_or, inl, inr, sym, ap, subst, arith}
use lib.IntN.{pos}
use Rattle.std.proofs.lemmas.Bool.{cases_lt, cases_order}
use Rattle.std.specs.List.{AllByRecursion, Contains}
use Rattle.std.proofs.lemmas.List.Elements.{recursion_from_All, All-from_recursion}
use Rattle.grid_geom.specs.declared.Point.{Point}
use Rattle.grid_geom.specs.declared.Edge.{Edge}
use Rattle.grid_geom.specs.Sides.{IsOnOpen}
use Rattle.grid_geom.specs.Polygon.{sides, IsStrictlyConvex}
use Rattle.wind_law.specs.Chains.{back, times, IsSameChain}
use Rattle.wind_law.specs.Near.{HaveCommonPoint}
use Rattle.wind_law.proofs.Corners.{IsEndOrLeft}
use Rattle.wind_law.proofs.Polygons.{by_corners}
use Rattle.state_law.specs.Free.{IsIn}
use Rattle.state_law.specs.Kept.{all_sides}
use Rattle.state_law.specs.Saved.{IsCorner}
use Rattle.state_law.specs.State.{point_at, corners_of}
use Rattle.state_law.proofs.Counts.{times_some, in_by_times}
use Rattle.state_law.proofs.Lists.{all_map, at_edge}
use Rattle.state_law.proofs.Saved.{at_corner, corner_closure}
use Rattle.state_law.proofs.SidesFree.{not_open, sides_edges}
use Rattle.state_law.proofs.Untangled.{open_back}
use Rattle.geom_check.specs.Geometry.{PlanarMap, IsGeometry}
use Rattle.vol_format.specs.declared.EdgeRow.{EdgeRow}
use Rattle.vol_format.specs.declared.MeshElement.{MeshElement}
use Rattle.vol_format.specs.declared.Mesh.{Mesh}
use Rattle.mesh_check.specs.Parts.{NamesItsPoints, row_edge, polygons_in, boundary_rows}
use Rattle.mesh_check.specs.Whole.{DoesHang}
use Rattle.mesh_check.specs.Tight.{HasNoOtherFault, IsNamed, IsRowFree, IsSpared, IsTight}
use Rattle.mesh_check.proofs.OpenSides.{any_one}
use Rattle.mesh_check.proofs.Domains.{domains_above}
use Rattle.mesh_check.proofs.Numbered.{numbered}
use Rattle.mesh_check.proofs.Partition.{same_domain_chain, with_join}
use Rattle.mesh_check.proofs.NoSharedSide.{all_edges, edges_directed, no_common}
use Rattle.mesh_check.proofs.Touching.{DoesReach, reaches, touching}
use Rattle.std.proofs.lemmas.List.{get_or_default}

-- ---- one polygon
-- no corner is in an open side of its own polygon
own_corner : (cs : List Point) (x : Edge) (v : Point) → IsStrictlyConvex cs → IsCorner v cs → IsIn x (sides cs) → ¬ (IsOnOpen v x.a x.b)
own_corner cs x v c i j o = not_open x v (at_corner (IsEndOrLeft x) v cs (at_edge (λ s. AllByRecursion (IsEndOrLeft s) cs) x (sides cs) (by_corners cs c (λ o u w ws f e. subst (λ (l : List Point). AllByRecursion (λ s. AllByRecursion (IsEndOrLeft s) l) (sides l)) (sym e) f.strict)) j) i) o.straight o.not_a o.not_b

-- ---- positions
abbrev polygon_at : Mesh → ℕ → MeshElement → List Point
polygon_at m k d = corners_of m.points (slice_index_or m.elements k d).corners

in_both : (x : Edge) (es fs : List Edge) → IsIn x (es ++ fs) → IsIn x es ⊎ IsIn x fs
in_both x [] fs i = inr i
in_both x (e ∷ es) fs (inl i) = inl (inl i)
in_both x (e ∷ es) fs (inr i) = elim (in_both x es fs i) [ inl j ↦ inl (inr j) | inr j ↦ inr j ]

in_first : (x : Edge) (es fs : List Edge) → IsIn x es → IsIn x (es ++ fs)
in_first x [] fs i = absurd i
in_first x (e ∷ es) fs (inl i) = inl i
in_first x (e ∷ es) fs (inr i) = inr (in_first x es fs i)

in_second : (x : Edge) (es fs : List Edge) → IsIn x fs → IsIn x (es ++ fs)
in_second x [] fs i = i
in_second x (e ∷ es) fs i = inr (in_second x es fs i)

in_at : (es : List Edge) (k : ℕ) (x : Edge) → k < length es → slice_index_or es k x ≡ x → IsIn x es
in_at [] k x h e = absurd (omega (arith, h))
in_at (f ∷ es) zero x h e = inl e
in_at (f ∷ es) (suc k) x h e = inr (in_at es k x (omega (arith, h)) e)

corner_at : (points : List Point) (ns : List ℕ) (k n : ℕ) → k < length ns → slice_index_or ns k n ≡ n → IsCorner (point_at points n) (corners_of points ns)
corner_at points [] k n h e = absurd (omega (arith, h))
corner_at points (a ∷ ns) zero n h e = inl (ap (point_at points) e)
corner_at points (a ∷ ns) (suc k) n h e = inr (corner_at points ns k n (omega (arith, h)) e)

-- an element with the side x, by its position
record HasSideAt (points : List Point) (x : Edge) (es : List MeshElement) : Type 0 where
  at : ℕ
  in_list : at < length es
  has : (d : MeshElement) → IsIn x (sides (corners_of points (slice_index_or es at d).corners))

side_at : (points : List Point) (domain : ℕ) (x : Edge) (es : List MeshElement) → IsIn x (all_sides (polygons_in points domain es)) → HasSideAt points x es
side_at points domain x [] i = absurd i
side_at points domain x (e ∷ es) i = chosen (nat_eq e.domain domain) (λ j. side_at points domain x es j) i
  where
    later : HasSideAt points x es → HasSideAt points x (e ∷ es)
    later r = record { at = suc r.at; in_list = omega (arith, r.in_list); has = r.has }

    chosen : (b : Bool) → (IsIn x (all_sides (polygons_in points domain es)) → HasSideAt points x es) → IsIn x (all_sides (map (λ (e : MeshElement). corners_of points e.corners) (cond b (e ∷ filter (λ (e : MeshElement). e.domain == domain) es) (filter (λ (e : MeshElement). e.domain == domain) es)))) → HasSideAt points x (e ∷ es)
    chosen true rest j = elim (in_both x (sides (corners_of points e.corners)) (all_sides (polygons_in points domain es)) j) [
      | inl k ↦ record { at = 0; in_list = omega arith; has = λ d. k }
      | inr k ↦ later (rest k)
    ]
    chosen false rest j = later (rest j)

-- a side of an element stands among those of its domain
among_sides : (points : List Point) (x : Edge) (es : List MeshElement) (k : ℕ) (d : MeshElement) → k < length es → IsIn x (sides (corners_of points (slice_index_or es k d).corners)) → IsIn x (all_sides (polygons_in points (slice_index_or es k d).domain es))
among_sides points x [] k d h i = absurd (omega (arith, h))
among_sides points x (e ∷ es) zero d h i = chosen (nat_eq e.domain e.domain) (same e.domain)
  where
    same : (n : ℕ) → nat_eq n n ≡ true
    same n = grind arith

    chosen : (b : Bool) → b ≡ true → IsIn x (all_sides (map (λ (e : MeshElement). corners_of points e.corners) (cond b (e ∷ filter (λ (f : MeshElement). f.domain == e.domain) es) (filter (λ (f : MeshElement). f.domain == e.domain) es))))
    chosen true q = in_first x (sides (corners_of points e.corners)) (all_sides (polygons_in points e.domain es)) i
    chosen false q = absurd (cc)
among_sides points x (e ∷ es) (suc k) d h i = chosen (nat_eq e.domain domain) (among_sides points x es k d (omega (arith, h)) i)
  where
    domain : ℕ
    domain = (slice_index_or es k d).domain

    chosen : (b : Bool) → IsIn x (all_sides (polygons_in points domain es)) → IsIn x (all_sides (map (λ (e : MeshElement). corners_of points e.corners) (cond b (e ∷ filter (λ (f : MeshElement). f.domain == domain) es) (filter (λ (f : MeshElement). f.domain == domain) es))))
    chosen true j = in_second x (sides (corners_of points e.corners)) (all_sides (polygons_in points domain es)) j
    chosen false j = j

-- what is in no open edge row is in no open edge of a boundary
boundary_free : (points : List Point) (domain : ℕ) (v : Point) (rows : List EdgeRow) → AllByRecursion (λ row. ¬ (IsOnOpen v (row_edge points row).a (row_edge points row).b)) rows → AllByRecursion (λ e. ¬ (IsOnOpen v e.a e.b)) (boundary_rows points domain rows)
boundary_free points domain v [] h = tt
boundary_free points domain v (row ∷ rows) h = with_join (λ e. ¬ (IsOnOpen v e.a e.b)) (row.left == domain) (row_edge points row) _ h.0
    (with_join (λ e. ¬ (IsOnOpen v e.a e.b)) (row.right == domain) (back (row_edge points row)) (boundary_rows points domain rows) (λ o. h.0 (open_back v (row_edge points row).a (row_edge points row).b o)) (boundary_free points domain v rows h.1))

-- ---- the law
module _ (g : PlanarMap) (m : Mesh) (geometry : IsGeometry g) (names : NamesItsPoints m) (fill : HasNoOtherFault g m) where
  convex_at : (k : ℕ) (d : MeshElement) → k < length m.elements → IsStrictlyConvex (polygon_at m k d)
  convex_at k d l = fill.turned k d l

  -- no two different elements have a common point
  apart : (i k : ℕ) (d : MeshElement) → i < length m.elements → k < length m.elements → (i ≡ k → ⊥) → ¬ (HaveCommonPoint (polygon_at m i d) (polygon_at m k d) (all_edges g m))
  apart i k d h l n c = elim (cases_order i k) [
    | inl e ↦ n e
    | inr r ↦ elim r [
      | inl o ↦ no_common g m i k d geometry names fill o l c
      | inr o ↦ no_common g m k i d geometry names fill o h (record { at = c.at; rational = c.rational; in_first = c.in_second; in_second = c.in_first; off = c.off })
    ]
  ]

  -- the element of a corner in an open side of another one doesn't reach to the side's left
  no_reach : (j k : ℕ) (d : MeshElement) (v : Point) (x : Edge) → j < length m.elements → k < length m.elements → IsCorner v (polygon_at m j d) → IsIn x (sides (polygon_at m k d)) → IsOnOpen v x.a x.b → ¬ (DoesReach (polygon_at m j d) x)
  no_reach j k d v x h l c i o r = apart k j d l h (λ e. own_corner (polygon_at m j d) x v (convex_at j d h) c (subst (λ (n : ℕ). IsIn x (sides (polygon_at m n d))) e i) o)
      (touching (polygon_at m k d) (polygon_at m j d) x v (all_edges g m) (convex_at k d l) i o (corner_closure v (polygon_at m j d) (convex_at j d h) c) r (edges_directed g m geometry fill))

  -- a side has its reverse in an element of its domain, or is an edge of the domain's boundary
  met : (x : Edge) (domain : ℕ) → 0 < domain → IsIn x (all_sides (polygons_in m.points domain m.elements)) → IsIn (back x) (all_sides (polygons_in m.points domain m.elements)) ⊎ IsIn x (boundary_rows m.points domain m.edges)
  met x domain z i = sorted (same_domain_chain m domain (numbered m fill.places names) (fill.chained domain z)) (cases_lt 0 (times (back x) (all_sides (polygons_in m.points domain m.elements))))
    where
      some : (a b c d : ℕ) → a + b ≡ c + d → 1 ≤ a → c ≤ 0 → 1 ≤ d
      some a b c d e h l = omega arith

      sorted : IsSameChain (all_sides (polygons_in m.points domain m.elements)) (boundary_rows m.points domain m.edges) → (0 < times (back x) (all_sides (polygons_in m.points domain m.elements))) ⊎ (times (back x) (all_sides (polygons_in m.points domain m.elements)) ≤ 0)
          → IsIn (back x) (all_sides (polygons_in m.points domain m.elements)) ⊎ IsIn x (boundary_rows m.points domain m.edges)
      sorted s (inl l) = inl (in_by_times (back x) (all_sides (polygons_in m.points domain m.elements)) l)
      sorted s (inr l) = inr (in_by_times x (boundary_rows m.points domain m.edges) (some _ _ _ _ (s.balanced x) (times_some x (all_sides (polygons_in m.points domain m.elements)) i) l))

  corner_free : (j k : ℕ) (d : MeshElement) (v : Point) (x : Edge) → j < length m.elements → k < length m.elements → AllByRecursion (λ row. ¬ (IsOnOpen v (row_edge m.points row).a (row_edge m.points row).b)) m.edges
      → IsCorner v (polygon_at m j d) → IsIn x (sides (polygon_at m k d)) → ¬ (IsOnOpen v x.a x.b)
  corner_free j k d v x h l free c i o = sided (reaches (polygon_at m j d) x (convex_at j d h) (at_edge (λ e. ¬ (e.a ≡ e.b)) x (sides (polygon_at m k d)) (sides_edges (polygon_at m k d) (convex_at k d l)) i))
    where
      domain : ℕ
      domain = (slice_index_or m.elements k d).domain

      above : 0 < domain
      above = All-from_recursion (λ e. 0 < e.domain) m.elements (domains_above g m.elements geometry fill.domains) k d l

      sided : DoesReach (polygon_at m j d) x ⊎ DoesReach (polygon_at m j d) (back x) → ⊥
      sided (inl r) = no_reach j k d v x h l c i o r
      sided (inr r) = elim (met x domain above (among_sides m.points x m.elements k d l i)) [
        | inl b ↦ let s = side_at m.points domain (back x) m.elements b in no_reach j s.at d v (back x) h s.in_list c (s.has d) (open_back v x.b x.a o) r
        | inr b ↦ at_edge (λ e. ¬ (IsOnOpen v e.a e.b)) x (boundary_rows m.points domain m.edges) (boundary_free m.points domain v m.edges free) b o
      ]

  -- a corner hangs nowhere, where no point is in an open edge row
  pub spared : (i k : ℕ) → IsSpared m i → ¬ (DoesHang m.points m.elements i k)
  spared i k t hang = named t.named
    where
      nowhere : Point
      nowhere = record { x = pos 0; y = pos 0 }

      v : Point
      v = slice_index_or m.points i nowhere

      free : AllByRecursion (λ row. ¬ (IsOnOpen v (row_edge m.points row).a (row_edge m.points row).b)) m.edges
      free = all_map (IsRowFree m.points) (λ row. ¬ (IsOnOpen v (row_edge m.points row).a (row_edge m.points row).b)) (λ row f o. f i (record { in_list = hang.point_in_list; hangs = λ p. any_one (λ e. IsOnOpen (slice_index_or m.points i p) e.a e.b) (row_edge m.points row) (at p row o) })) m.edges (recursion_from_All (IsRowFree m.points) m.edges t.free)
        where
          at : (p : Point) (row : EdgeRow) → IsOnOpen v (row_edge m.points row).a (row_edge m.points row).b → IsOnOpen (slice_index_or m.points i p) (row_edge m.points row).a (row_edge m.points row).b
          at p row = subst (λ (q : Point). IsOnOpen q (row_edge m.points row).a (row_edge m.points row).b) (get_or_default m.points i nowhere p hang.point_in_list)

      same : (i : ℕ) → i + 1 - 1 ≡ i
      same i = omega arith

      corner : (e : MeshElement) → Contains e.corners (i + 1) → IsCorner v (corners_of m.points e.corners)
      corner e (q, l, is) = subst (λ (n : ℕ). IsCorner (slice_index_or m.points n nowhere) (corners_of m.points e.corners)) (same i) (corner_at m.points e.corners q (i + 1) l is)

      named : IsNamed m.elements i → ⊥
      named (j, e, l, is, c) = sided (hang.hangs nowhere e)
        where
          sided : ((q : ℕ) × (x : Edge) × (q < length (sides (polygon_at m k e))) × (slice_index_or (sides (polygon_at m k e)) q x ≡ x) × IsOnOpen v x.a x.b) → ⊥
          sided (q, x, h, at, o) = corner_free j k e v x l hang.element_in_list free (subst (λ (f : MeshElement). IsCorner v (corners_of m.points f.corners)) (sym is) (corner e c)) (in_at (sides (polygon_at m k e)) q x h at) o

  pub none_hangs : IsTight m → (i k : ℕ) → ¬ (DoesHang m.points m.elements i k)
  none_hangs t i k hang = spared i k (record { named = t.named i hang.point_in_list; free = t.free }) hang
