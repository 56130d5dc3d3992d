-- The pieces of a geometry: each is of a segment, on the grid, with two ends; and no two tangle.
use Rattle.std.proofs.Common.{◌≡◌, ℕ, ◌+◌, ◌≤◌, List, [], ◌∷◌, ◌++◌, map, length, refl, sym, ap, ◌∙◌, subst, append_assoc, arith}
use Rattle.std.specs.List.{All, AllByRecursion, flat_map}
use Rattle.std.proofs.lemmas.List.{map-append}
use Rattle.std.proofs.lemmas.List.Elements.{All-from_recursion}
use Rattle.grid_geom.specs.declared.Edge.{Edge}
use Rattle.geom_check.specs.declared.kinds.Segment.{Segment}
use Rattle.geom_check.specs.Boundary.{edge_of, edges_of}
use Rattle.geom_check.specs.Geometry.{PlanarMap, IsGeometry}
use Rattle.state_law.proofs.Lists.{all_map, all_append}
use Rattle.size_field.specs.declared.cutting.TheConstants.{MOST_HALVINGS}
use Rattle.size_field.specs.Boundary.{IsNumberTo, piece_edge}
use Rattle.size_field.specs.Parts.{IsPart, IsPiece, AreUntangled}
use Rattle.size_field.specs.Cutting.{bound, parts_of, piece_of, pieces_from, pieces_of}
use Rattle.size_field.proofs.PartLaws.{parts_parts, parts_untangled}
use Rattle.size_field.proofs.Rows.{segments_parts, segments_untangled}

of_parts : (count n : ℕ) (es : List Edge) → IsNumberTo count n → AllByRecursion IsPart es → AllByRecursion (IsPiece count) (map (piece_of n) es)
of_parts count n [] h k = tt
of_parts count n (e ∷ es) h k = (record { of_segment = h; part = k.0 }, of_parts count n es h k.1)

pieces_after : (cut : Segment → List Edge) (count n : ℕ) (ss : List Segment) → 1 ≤ n → n + length ss ≤ count + 1 → AllByRecursion (λ s. AllByRecursion IsPart (cut s)) ss → AllByRecursion (IsPiece count) (pieces_from cut n ss)
pieces_after cut count n [] h k each = tt
pieces_after cut count n (s ∷ ss) h k each =
    all_append (IsPiece count) (map (piece_of n) (cut s)) (pieces_from cut (n + 1) ss) (of_parts count n (cut s) (record { first = h; last = omega (arith, k) }) each.0)
    (pieces_after cut count (n + 1) ss (omega arith) (omega (arith, k)) each.1)

pub pieces_are : (g : PlanarMap) (greatest grading : ℕ) → IsGeometry g → AllByRecursion (IsPiece (length g.segments)) (pieces_of g greatest grading)
pieces_are g greatest grading h =
    pieces_after (parts_of g greatest grading) (length g.segments) 1 g.segments (omega arith) (omega arith)
    (all_map (λ s. IsPart (edge_of g.points s)) (λ s. AllByRecursion IsPart (parts_of g greatest grading s))
    (λ s part. parts_parts (bound g greatest grading s) MOST_HALVINGS (edge_of g.points s).a (edge_of g.points s).b part) g.segments (segments_parts g h))

pub all_pieces : (g : PlanarMap) (greatest grading : ℕ) → IsGeometry g → All (IsPiece (length g.segments)) (pieces_of g greatest grading)
all_pieces g greatest grading h = All-from_recursion (IsPiece (length g.segments)) (pieces_of g greatest grading) (pieces_are g greatest grading h)

-- ---- as edges
edges_back : (n : ℕ) (es : List Edge) → map piece_edge (map (piece_of n) es) ≡ es
edges_back n [] = refl
edges_back n (e ∷ es) = ap (λ (fs : List Edge). e ∷ fs) (edges_back n es)

pub edges_are : (cut : Segment → List Edge) (n : ℕ) (ss : List Segment) → map piece_edge (pieces_from cut n ss) ≡ flat_map cut ss
edges_are cut n [] = refl
edges_are cut n (s ∷ ss) = map-append piece_edge (map (piece_of n) (cut s)) (pieces_from cut (n + 1) ss) ∙ (λ i. edges_back n (cut s) i ++ edges_are cut (n + 1) ss i)

-- ---- no two tangle
untangled_after : (g : PlanarMap) (greatest grading : ℕ) (before : List Edge) (ss : List Segment) → AllByRecursion (λ s. IsPart (edge_of g.points s)) ss → AreUntangled (before ++ edges_of g.points ss) → AreUntangled (before ++ flat_map (parts_of g greatest grading) ss)
untangled_after g greatest grading before [] h u = u
untangled_after g greatest grading before (s ∷ ss) h u =
    let parts = parts_of g greatest grading s in
    let one = parts_untangled (bound g greatest grading s) MOST_HALVINGS (edge_of g.points s).a (edge_of g.points s).b before (edges_of g.points ss) h.0 u in
    subst AreUntangled (append_assoc before parts (flat_map (parts_of g greatest grading) ss))
    (untangled_after g greatest grading (before ++ parts) ss h.1 (subst AreUntangled (sym (append_assoc before parts (edges_of g.points ss))) one))

pub pieces_untangled : (g : PlanarMap) (greatest grading : ℕ) → IsGeometry g → AreUntangled (map piece_edge (pieces_of g greatest grading))
pieces_untangled g greatest grading h =
    subst AreUntangled (sym (edges_are (parts_of g greatest grading) 1 g.segments)) (untangled_after g greatest grading [] g.segments (segments_parts g h) (segments_untangled g h))
