-- What a domain's run begins with is what a front may begin with.
-- Its points are different, since they are listed by first occurrence. A piece has the domain on one side at most, so a boundary has no more lines
-- than there are pieces, which are at most 256 for each of 4,096 segments. The pieces' doubled area is that of the segments, each of which sweeps at
-- most SWEEP; so line numbers stay within 64 bits.
use Rattle.std.proofs.Common.{◌≡◌, ℕ, zero, suc, ◌+◌, ◌*◌, ◌-◌, ◌^◌, ◌<◌, ◌≤◌, ◌==◌, Bool, true, false, List, [], ◌∷◌, ◌++◌, map, filter, length, Option, Some, None, refl, sym, ap, ◌∙◌, subst, arith, length-append, ℤ, pos, negsuc, ◌+ℤ◌, ◌*ℤ◌, ◌≤ℤ◌}
use Rattle.std.specs.List.{All, AllByRecursion, IsDistinct}
use Rattle.std.proofs.lemmas.Int.{ints}
use Rattle.std.proofs.lemmas.Bool.{eqb-true}
use Rattle.std.proofs.lemmas.List.{length-map}
use Rattle.std.proofs.lemmas.List.Elements.{All-filter, recursion_from_All}
use Rattle.grid_geom.specs.declared.Point.{Point}
use Rattle.grid_geom.specs.declared.Edge.{Edge}
use Rattle.grid_geom.specs.Area.{sweep_of, shoelace}
use Rattle.grid_geom.specs.Bounds.{IsOnGrid}
use Rattle.grid_geom.specs.Closed.{same_point}
use Rattle.wind_law.specs.Chains.{back}
use Rattle.wind_law.specs.Grid.{IsEdgeOnGrid}
use Rattle.geom_check.specs.declared.kinds.Segment.{Segment}
use Rattle.geom_check.specs.Accepted.{HasDifferentDomains}
use Rattle.geom_check.specs.Boundary.{boundary, edge_of, with_edge}
use Rattle.geom_check.specs.declared.limits.TheConstants.{MOST_ROWS}
use Rattle.geom_check.specs.Geometry.{PlanarMap, IsGeometry}
use Rattle.state_law.specs.Region.{IsRegion}
use Rattle.state_law.specs.State.{IsListed, front_edges, pair_edge}
use Rattle.size_field.specs.declared.cutting.TheConstants.{MOST_HALVINGS}
use Rattle.size_field.specs.declared.pieces.Piece.{Piece}
use Rattle.size_field.specs.Boundary.{piece_boundary, piece_edge, segment_of, IsPieceOnGrid}
use Rattle.size_field.specs.Cutting.{bound, cut_at, on_both_sides, parts, parts_of, piece_of, pieces_from, pieces_of}
use Rattle.size_field.specs.Parts.{IsPart, IsPiece}
use Rattle.size_field.proofs.AllPieces.{all_pieces, pieces_are}
use Rattle.size_field.proofs.Bounds.{turned_by}
use Rattle.size_field.proofs.Regions.{boundary_region}
use Rattle.size_field.proofs.Rows.{segments_parts}
use Rattle.front_chain.specs.declared.opening.TheConstants.{SWEEP}
use Rattle.front_chain.specs.Front.{IsOpening, numbered_from, or_zero}
use Rattle.front_chain.proofs.Openings.{sweep_within}
use Rattle.mesh_run.specs.Numbering.{ends_of, is_among, number_in}
use Rattle.mesh_run.specs.Opening.{domain_points, front_from, mesh_points, numbered, opening_lines}
use Rattle.mesh_run.specs.Runs.{opening_state}
use Rattle.mesh_run.proofs.Areas.{pieces_area}
use Rattle.mesh_run.proofs.Bounded.{AreAmong, ends_after, ends_listed, end_among, front_lines, number_within, read_back, start_among}
use Rattle.mesh_run.proofs.Listed.{first_again}
use Rattle.mesh_run.proofs.Named.{first_distinct, mesh_on_grid}

-- front lines are numbered as front_chain numbers them
pub same_front : (n : ℕ) (lines : List (ℕ × ℕ)) → front_from n lines ≡ numbered_from n lines
same_front n [] = refl
same_front n (line ∷ lines) = ap (λ rest. (n, line.0, line.1) ∷ rest) (same_front (n + 1) lines)

-- ---- points and lines
distinct_points : (d : ℕ) (segments : List Segment) (pieces : List Piece) → IsDistinct same_point (domain_points d segments pieces)
distinct_points d segments pieces =
    let test = is_among (ends_of (piece_boundary d segments pieces)) in
    subst (IsDistinct same_point) (first_again (ends_of (map piece_edge pieces)) test) (first_distinct (filter test (mesh_points pieces)))

listed_lines : (ps : List Point) (n : ℕ) (es : List Edge) → AreAmong (ends_of es) ps
    → AllByRecursion (λ line. IsListed (length ps) line.1 × IsListed (length ps) line.2) (numbered_from n (numbered ps es))
listed_lines ps n [] h = tt
listed_lines ps n (e ∷ es) h = ((listed e.a (start_among e es), listed e.b (end_among e es)), listed_lines ps (n + 1) es (ends_after e es ps h))
  where
    listed : (p : Point) → is_among (ends_of (e ∷ es)) p ≡ true → IsListed (length ps) (number_in ps p)
    listed p k = let within = number_within ps p (h.kept p k) in (within.first, within.last)

points_on_grid : (g : PlanarMap) (greatest grading d : ℕ) → IsGeometry g → All IsOnGrid (domain_points d g.segments (pieces_of g greatest grading))
points_on_grid g greatest grading d h =
    let pieces = pieces_of g greatest grading in
    let on_grid : All IsPieceOnGrid pieces = λ k p within. let part = (all_pieces g greatest grading h k p within).part in record { a = part.on_grid.a; b = part.on_grid.b } in
    All-filter (is_among (ends_of (piece_boundary d g.segments pieces))) IsOnGrid (mesh_points pieces) (mesh_on_grid pieces on_grid)

-- the opening lines as edges are the domain's boundary in pieces
pub lines_are : (d : ℕ) (segments : List Segment) (pieces : List Piece) → map (pair_edge (domain_points d segments pieces)) (opening_lines d segments pieces) ≡ piece_boundary d segments pieces
lines_are d segments pieces = read_back (domain_points d segments pieces) (piece_boundary d segments pieces) (ends_listed d segments pieces)

-- ---- how many pieces there are
most : ℕ → ℕ
most zero = 1
most (suc n) = most n + most n

one_at_least : (n : ℕ) → 1 ≤ most n
unfolding most
one_at_least zero = omega arith
one_at_least (suc n) = let rest = one_at_least n in omega arith

parts_count : (bound : Point → ℕ) (n : ℕ) (a b : Point) → length (parts bound n a b) ≤ most n
unfolding parts most
parts_count bound zero a b = omega arith
parts_count bound (suc n) a b = by (λ c d. parts_count bound n c d) (cut_at bound a b)
  where
    by : ((c d : Point) → length (parts bound n c d) ≤ most n) → (o : Option Point) → length (on_both_sides (parts bound n) a b o) ≤ most n + most n
    by each None = omega (arith, one_at_least n)
    by each (Some m) = omega (arith, each a m, each m b, length-append (parts bound n a m) (parts bound n m b))

pieces_count : (cut : Segment → List Edge) (n : ℕ) (ss : List Segment) → ((s : Segment) → length (cut s) ≤ 256) → length (pieces_from cut n ss) ≤ length ss * 256
pieces_count cut n [] each = omega arith
pieces_count cut n (s ∷ ss) each =
    omega (arith, each s, length-map (cut s) (piece_of n), length-append (map (piece_of n) (cut s)) (pieces_from cut (n + 1) ss), pieces_count cut (n + 1) ss each)

-- ---- how many edges a boundary in pieces has
few_turned : (left right : Bool) (count : ℕ) (e : Edge) (rest : List Edge) → (left ≡ true → right ≡ true → ⊥) → length rest ≤ count → length (turned_by left right e ++ rest) ≤ suc count
few_turned true true count e rest one few = absurd (one refl refl)
few_turned true false count e rest one few = omega (arith, few)
few_turned false true count e rest one few = omega (arith, few)
few_turned false false count e rest one few = omega (arith, few)

boundary_few : (d : ℕ) (all : List Segment) (ps : List Piece) → All HasDifferentDomains all → AllByRecursion (IsPiece (length all)) ps → length (piece_boundary d all ps) ≤ length ps
boundary_few d all [] two_sided pieces = omega arith
boundary_few d all (p ∷ ps) two_sided pieces =
    let s = segment_of all p in
    let differ : HasDifferentDomains s = two_sided (p.segment - 1) (record { left = 0; right = 0; p = 0; q = 0; bc = 0; maxh = None }) (omega (arith, pieces.0.of_segment.first, pieces.0.of_segment.last)) in
    few_turned (s.left == d) (s.right == d) (length ps) (piece_edge p) (piece_boundary d all ps) (λ i j. differ (eqb-true s.left d i ∙ sym (eqb-true s.right d j))) (boundary_few d all ps two_sided pieces.1)

-- ---- what a boundary in segments sweeps: at most SWEEP a segment
edge_sweep : (e : Edge) → IsEdgeOnGrid e → sweep_of e ≤ℤ SWEEP
edge_sweep e on_grid = (sweep_within e.a e.b on_grid.a on_grid.b).greatest

one_more : (count : ℕ) (s r : ℤ) → s ≤ℤ SWEEP → r ≤ℤ (SWEEP *ℤ pos count) → (s +ℤ r) ≤ℤ (SWEEP *ℤ pos (suc count))
one_more count s r h k = omega (arith, ints, h, k)

none_more : (count : ℕ) (r : ℤ) → r ≤ℤ (SWEEP *ℤ pos count) → r ≤ℤ (SWEEP *ℤ pos (suc count))
none_more count r h = omega (arith, ints, h)

swept_turned : (left right : Bool) (count : ℕ) (e : Edge) (rest : List Edge) → (left ≡ true → right ≡ true → ⊥) → IsEdgeOnGrid e → shoelace rest ≤ℤ (SWEEP *ℤ pos count)
    → shoelace (with_edge left e (with_edge right (back e) rest)) ≤ℤ (SWEEP *ℤ pos (suc count))
swept_turned true true count e rest one on_grid h = absurd (one refl refl)
swept_turned true false count e rest one on_grid h = one_more count (sweep_of e) (shoelace rest) (edge_sweep e on_grid) h
swept_turned false true count e rest one on_grid h = one_more count (sweep_of (back e)) (shoelace rest) (edge_sweep (back e) (record { a = on_grid.b; b = on_grid.a })) h
swept_turned false false count e rest one on_grid h = none_more count (shoelace rest) h

boundary_swept : (points : List Point) (d : ℕ) (ss : List Segment) → AllByRecursion HasDifferentDomains ss → AllByRecursion (λ s. IsPart (edge_of points s)) ss → shoelace (boundary points d ss) ≤ℤ (SWEEP *ℤ pos (length ss))
boundary_swept points d [] differ parts = omega (arith, ints)
boundary_swept points d (s ∷ ss) differ parts =
    swept_turned (s.left == d) (s.right == d) (length ss) (edge_of points s) (boundary points d ss) (λ i j. differ.0 (eqb-true s.left d i ∙ sym (eqb-true s.right d j)))
    parts.0.on_grid (boundary_swept points d ss differ.1 parts.1)

-- an area of no more than so many sweeps, and so many lines beside it, leave room in 64 bits
room : (z : ℤ) (lines pieces segments : ℕ) → z ≤ℤ (SWEEP *ℤ pos segments) → lines ≤ pieces → pieces ≤ segments * 256 → segments ≤ MOST_ROWS → lines + 4 * or_zero z ≤ 2 ^ 64 - 2
room (pos m) lines pieces segments h i j k = omega (arith, ints, h, i, j, k)
room (negsuc m) lines pieces segments h i j k = omega (arith, i, j, k)

-- ---- all of it
pub begun : (g : PlanarMap) (greatest grading d : ℕ) → IsGeometry g → 0 < d → IsOpening (domain_points d g.segments (pieces_of g greatest grading)) (opening_lines d g.segments (pieces_of g greatest grading))
unfolding most
begun g greatest grading d h above =
    let pieces = pieces_of g greatest grading in let es = piece_boundary d g.segments pieces in
    let lines = opening_lines d g.segments pieces in
    let many : length pieces ≤ length g.segments * 256 =
    pieces_count (parts_of g greatest grading) 1 g.segments (λ s. parts_count (bound g greatest grading s) MOST_HALVINGS (edge_of g.points s).a (edge_of g.points s).b) in
    let area : shoelace (boundary g.points d g.segments) ≡ shoelace (map (pair_edge (domain_points d g.segments pieces)) lines) =
    sym (pieces_area g greatest grading d h) ∙ ap shoelace (sym (lines_are d g.segments pieces)) in
    let few : length lines ≤ length pieces = subst (λ (n : ℕ). n ≤ length pieces) (sym (length-map es (λ e. (number_in (domain_points d g.segments pieces) e.a, number_in (domain_points d g.segments pieces) e.b))))
    (boundary_few d g.segments pieces h.planar.sides (pieces_are g greatest grading h)) in
    let swept : shoelace (boundary g.points d g.segments) ≤ℤ (SWEEP *ℤ pos (length g.segments)) =
    boundary_swept g.points d g.segments (recursion_from_All HasDifferentDomains g.segments h.planar.sides) (segments_parts g h) in
    record {
      numbered = record { different = distinct_points d g.segments pieces; lines_listed = listed_lines (domain_points d g.segments pieces) 1 es (ends_listed d g.segments pieces) };
      on_grid = points_on_grid g greatest grading d h;
      region = subst IsRegion (sym (lines_are d g.segments pieces)) (boundary_region g greatest grading d h above);
      bounded = subst (λ (z : ℤ). length lines + 4 * or_zero z ≤ 2 ^ 64 - 2) area
          (room (shoelace (boundary g.points d g.segments)) (length lines) (length pieces) (length g.segments) swept few many h.few_segments);
    }

-- the front of an opening state is the domain's boundary in pieces
pub front_opens : (d : ℕ) (segments : List Segment) (pieces : List Piece) → front_edges (opening_state d segments pieces).points (opening_state d segments pieces).front ≡ piece_boundary d segments pieces
front_opens d segments pieces =
    front_lines (pair_edge (domain_points d segments pieces)) 1 (opening_lines d segments pieces) ∙ lines_are d segments pieces
