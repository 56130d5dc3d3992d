-- In a whole mesh the elements of a domain wind round each place as its boundary does, and no directed side belongs to
-- two elements. Stands on RowWinding and Numbered.
use Rattle.std.proofs.Common.{◌≡◌, ◌⊎◌, ℕ, ◌+◌, ◌<◌, ◌==◌, nat_eq, Bool, true, false, cond, List, [], ◌∷◌, length, map, filter, inl, inr, refl, sym, ◌∙◌, ap, subst, arith}
use lib.IntN.{ℤ, pos, ◌+ℤ◌, ◌-ℤ◌}
use Rattle.std.proofs.lemmas.Int.{ints}
use Rattle.std.proofs.lemmas.Bool.{cases_order, cases_lt}
use Rattle.std.specs.List.{AllByRecursion}
use Rattle.grid_geom.specs.declared.Point.{Point}
use Rattle.grid_geom.specs.declared.RatPoint.{RatPoint}
use Rattle.grid_geom.specs.declared.Edge.{Edge}
use Rattle.grid_geom.specs.Plane.{IsRational}
use Rattle.grid_geom.specs.Polygon.{sides, IsStrictlyConvex}
use Rattle.grid_geom.specs.Winding.{wind}
use Rattle.grid_geom.specs.Closed.{IsOff}
use Rattle.wind_law.specs.Chains.{edge, back, times, IsSameChain}
use Rattle.wind_law.proofs.Additive.{wind_append}
use Rattle.wind_law.proofs.Polygons.{polygon_inside, polygon_outside}
use Rattle.wind_law.proofs.SameChain.{same_wind}
use Rattle.state_law.specs.Kept.{all_sides, IsNoneOrOne}
use Rattle.state_law.specs.State.{point_at, pair_edge, number_sides, corners_of}
use Rattle.state_law.proofs.Numbers.{side_edges}
use Rattle.state_law.proofs.Counts.{in_by_times}
use Rattle.state_law.proofs.KeptOn.{inside_or_not}
use Rattle.state_law.proofs.Lists.{all_append, at_edge}
use Rattle.geom_check.specs.Boundary.{boundary, with_edge}
use Rattle.geom_check.specs.Geometry.{PlanarMap}
use Rattle.vol_format.specs.declared.EdgeRow.{EdgeRow}
use Rattle.vol_format.specs.declared.MeshElement.{MeshElement}
use Rattle.vol_format.specs.declared.Mesh.{Mesh}
use Rattle.mesh_check.specs.Parts.{NamesItsPoints, row_edge, polygons_in, boundary_rows}
use Rattle.mesh_check.specs.Walked.{places_of}
use Rattle.mesh_check.specs.Whole.{IsChained, IsWhole}
use Rattle.mesh_check.specs.Tight.{HasNoOtherFault}
use Rattle.mesh_check.specs.Partition.{winds}
use Rattle.mesh_check.proofs.Numbered.{AreListed, NameListed, JoinListed, IsNumbered, numbered, sides_listed}
use Rattle.mesh_check.proofs.RowWinding.{walk_wind}

-- ---- edges between points of the mesh
-- the edge joins two of the points
pub record JoinsPoints (points : List Point) (e : Edge) : Type 0 where
  pub ends : ℕ × ℕ
  pub listed : AreListed (length points) ends
  pub is : e ≡ pair_edge points ends

pairs_join : (points : List Point) (ns : List (ℕ × ℕ)) → AllByRecursion (AreListed (length points)) ns → AllByRecursion (JoinsPoints points) (map (pair_edge points) ns)
pairs_join points [] h = tt
pairs_join points (s ∷ ns) h = (record { ends = s; listed = h.0; is = refl }, pairs_join points ns h.1)

sides_join : (points : List Point) (domain : ℕ) (es : List MeshElement) → NameListed (length points) es → AllByRecursion (JoinsPoints points) (all_sides (polygons_in points domain es))
sides_join points domain [] h = tt
sides_join points domain (e ∷ es) h = chosen (nat_eq e.domain domain) (sides_join points domain es h.1)
  where
    chosen : (b : Bool) → AllByRecursion (JoinsPoints points) (all_sides (polygons_in points domain es)) →
        AllByRecursion (JoinsPoints points) (all_sides (map (λ (e : MeshElement). corners_of points e.corners) (cond b (e ∷ filter (λ (e : MeshElement). e.domain == domain) es) (filter (λ (e : MeshElement). e.domain == domain) es))))
    chosen true rest = all_append (JoinsPoints points) (sides (corners_of points e.corners)) (all_sides (polygons_in points domain es)) (subst (AllByRecursion (JoinsPoints points)) (side_edges points e.corners) (pairs_join points (number_sides e.corners) (sides_listed (length points) e.corners h.0))) rest
    chosen false rest = rest

pub with_join : (P : Edge → Type 0) (b : Bool) (e : Edge) (es : List Edge) → P e → AllByRecursion P es → AllByRecursion P (with_edge b e es)
with_join P true e es h k = (h, k)
with_join P false e es h k = k

rows_join : (points : List Point) (domain : ℕ) (rows : List EdgeRow) → JoinListed (length points) rows → AllByRecursion (JoinsPoints points) (boundary_rows points domain rows)
rows_join points domain [] h = tt
rows_join points domain (row ∷ rows) h = with_join (JoinsPoints points) (row.left == domain) (row_edge points row) (with_edge (row.right == domain) (back (row_edge points row)) (boundary_rows points domain rows)) (record { ends = (row.a, row.b); listed = (h.0.start, h.0.finish); is = refl })
    (with_join (JoinsPoints points) (row.right == domain) (back (row_edge points row)) (boundary_rows points domain rows) (record { ends = (row.b, row.a); listed = (h.0.finish, h.0.start); is = refl }) (rows_join points domain rows h.1))

-- an edge of one of two lists is one that joins two points, or stands in neither, and so does its reverse
data IsJoinedOrNone (points : List Point) (x : Edge) (es fs : List Edge) : Type 0 where
  joined : JoinsPoints points x → IsJoinedOrNone points x es fs
  none : times x es ≡ 0 → times x fs ≡ 0 → times (back x) es ≡ 0 → times (back x) fs ≡ 0 → IsJoinedOrNone points x es fs

-- some edge of the list is x, or none
first_or_none : (points : List Point) (x : Edge) (es : List Edge) → AllByRecursion (JoinsPoints points) es → JoinsPoints points x ⊎ (times x es ≡ 0)
first_or_none points x es h = elim (cases_lt 0 (times x es)) [ inl l ↦ inl (at x es h l) | inr l ↦ inr (let e : times x es ≡ 0 = omega (arith, l) in e) ]
  where
    at : (x : Edge) (es : List Edge) → AllByRecursion (JoinsPoints points) es → 0 < times x es → JoinsPoints points x
    at x es h l = at_edge (JoinsPoints points) x es h (in_by_times x es l)

turned_join : (points : List Point) (x : Edge) → JoinsPoints points (back x) → JoinsPoints points x
turned_join points x j = record { ends = (j.ends.1, j.ends.0); listed = (j.listed.1, j.listed.0); is = ap (λ (e : Edge). back e) j.is }

joined_or_none : (points : List Point) (x : Edge) (es fs : List Edge) → AllByRecursion (JoinsPoints points) es → AllByRecursion (JoinsPoints points) fs → IsJoinedOrNone points x es fs
joined_or_none points x es fs h k = elim (first_or_none points x es h) [
  | inl j ↦ joined j
  | inr a ↦ elim (first_or_none points x fs k) [
    | inl j ↦ joined j
    | inr b ↦ elim (first_or_none points (back x) es h) [
      | inl j ↦ joined (turned_join points x j)
      | inr c ↦ elim (first_or_none points (back x) fs k) [ inl j ↦ joined (turned_join points x j) | inr d ↦ none a b c d ]
    ]
  ]
]

-- ---- the chain
pub same_domain_chain : (m : Mesh) (domain : ℕ) → IsNumbered m → IsChained m domain → IsSameChain (all_sides (polygons_in m.points domain m.elements)) (boundary_rows m.points domain m.edges)
same_domain_chain m domain h c = record { balanced = λ x. by_case x (joined_or_none m.points x es rs (sides_join m.points domain m.elements h.elements) (rows_join m.points domain m.edges h.rows)) }
  where
    es : List Edge
    es = all_sides (polygons_in m.points domain m.elements)

    rs : List Edge
    rs = boundary_rows m.points domain m.edges

    zeros : (a b c d : ℕ) → a ≡ 0 → b ≡ 0 → c ≡ 0 → d ≡ 0 → a + d ≡ c + b
    zeros a b c d e f g i = omega arith

    from_net : (a b c d : ℕ) → pos a -ℤ pos b ≡ pos c -ℤ pos d → a + d ≡ b + c
    from_net a b c d e = omega (arith, ints)

    swapped : (a b c d : ℕ) → a + d ≡ b + c → b + c ≡ a + d
    swapped a b c d e = sym e

    both : (a b c d : ℕ) → a ≡ b → c ≡ d → a + d ≡ b + c
    both a b c d e f = omega arith

    ends : (s : ℕ × ℕ) → AreListed (length m.points) s → times (pair_edge m.points s) es + times (back (pair_edge m.points s)) rs ≡ times (back (pair_edge m.points s)) es + times (pair_edge m.points s) rs
    ends s l = elim (cases_order s.0 s.1) [
      | inl e ↦ let f : pair_edge m.points s ≡ back (pair_edge m.points s) = ap (λ (k : ℕ). edge (point_at m.points k) (point_at m.points s.1)) e ∙ ap (λ (k : ℕ). edge (point_at m.points s.1) (point_at m.points k)) (sym e) in
          both _ _ _ _ (ap (λ (x : Edge). times x es) f) (ap (λ (x : Edge). times x rs) f)
      | inr r ↦ elim r [
        | inl o ↦ from_net _ _ _ _ (c s.0 s.1 (record { first = l.0.0; ordered = o; last = l.1.1 }))
        | inr o ↦ swapped _ _ _ _ (from_net _ _ _ _ (c s.1 s.0 (record { first = l.1.0; ordered = o; last = l.0.1 })))
      ]
    ]

    by_case : (x : Edge) → IsJoinedOrNone m.points x es rs → times x es + times (back x) rs ≡ times (back x) es + times x rs
    by_case x (none a b d e) = zeros _ _ _ _ a b d e
    by_case x (joined j) = subst (λ (x : Edge). times x es + times (back x) rs ≡ times (back x) es + times x rs) (sym j.is) (ends j.ends j.listed)

-- ---- sums
winds_are : (q : RatPoint) (polygons : List (List Point)) → wind q (all_sides polygons) ≡ winds q polygons
winds_are q [] = refl
winds_are q (cs ∷ polygons) = wind_append q (sides cs) (all_sides polygons) ∙ ap (λ (z : ℤ). wind q (sides cs) +ℤ z) (winds_are q polygons)

pub filled : (g : PlanarMap) (m : Mesh) → IsWhole g m → HasNoOtherFault g m
filled g m w = record { places = w.places; rows = w.rows; domains = w.domains; turned = w.turned; chained = w.chained }

pub sums : (g : PlanarMap) (m : Mesh) (domain : ℕ) (q : RatPoint) → NamesItsPoints m → HasNoOtherFault g m → 0 < domain → IsRational q → wind q (boundary g.points domain g.segments) ≡ winds q (polygons_in m.points domain m.elements)
sums g m domain q n w z k = sym (walk_wind q (places_of g m) domain 1 g.segments m.edges k w.rows)
    ∙ sym (same_wind q (all_sides (polygons_in m.points domain m.elements)) (boundary_rows m.points domain m.edges) (same_domain_chain m domain (numbered m w.places n) (w.chained domain z)))
    ∙ winds_are q (polygons_in m.points domain m.elements)

-- each element winds 0 times or once
pub one_element : (q : RatPoint) (cs : List Point) → IsRational q → IsStrictlyConvex cs → IsOff q (sides cs) → IsNoneOrOne (wind q (sides cs))
one_element q cs k v o = elim (inside_or_not q cs) [ inl i ↦ inr (polygon_inside cs q v k i) | inr n ↦ inl (polygon_outside cs q v k o n) ]
