-- The boundaries of domains in pieces: they wind as the boundaries in segments do, and no two of their edges tangle.
use Rattle.std.proofs.Common.{◌≡◌, ℕ, ◌+◌, ◌-◌, ◌==◌, Bool, true, false, List, [], ◌∷◌, ◌++◌, map, length, slice_index_or, None, refl, sym, ap, ◌∙◌, append_assoc, arith, inl, inr, ℤ, pos, ◌+ℤ◌, ◌-ℤ◌}
use Rattle.std.specs.List.{All, AllByRecursion, flat_map}
use Rattle.std.proofs.lemmas.Int.{ints}
use Rattle.std.proofs.Math.Seq.{get_or-append_seam}
use Rattle.std.proofs.lemmas.List.{length_push}
use Rattle.grid_geom.specs.declared.Point.{Point}
use Rattle.grid_geom.specs.declared.RatPoint.{RatPoint}
use Rattle.grid_geom.specs.declared.Edge.{Edge}
use Rattle.grid_geom.specs.Plane.{IsRational}
use Rattle.grid_geom.specs.Winding.{wind, cross}
use Rattle.geom_check.specs.declared.kinds.Segment.{Segment}
use Rattle.geom_check.specs.Boundary.{edge_of, boundary, back, with_edge}
use Rattle.geom_check.specs.Accepted.{HasDifferentDomains}
use Rattle.geom_check.specs.Geometry.{PlanarMap, IsGeometry}
use Rattle.wind_law.proofs.Additive.{wind_append, wind_back}
use Rattle.state_law.specs.Free.{AreFreeOf, DoEdgesTangle}
use Rattle.state_law.specs.Region.{IsChosen}
use Rattle.state_law.proofs.Lists.{all_map}
use Rattle.state_law.proofs.Pieces.{chosen_pieces}
use Rattle.state_law.proofs.Untangled.{tangle_two_way, tangle_back_first}
use Rattle.size_field.specs.declared.cutting.TheConstants.{MOST_HALVINGS}
use Rattle.size_field.specs.declared.pieces.Piece.{Piece}
use Rattle.size_field.specs.Boundary.{segment_of, piece_edge, turned_to, piece_boundary}
use Rattle.size_field.specs.Parts.{IsPart, IsPiece, AreUntangled, AreOneOrApart}
use Rattle.size_field.specs.Cutting.{bound, parts_of, piece_of, pieces_from, pieces_of}
use Rattle.size_field.proofs.PartLaws.{parts_wind}
use Rattle.size_field.proofs.Rows.{segments_parts}
use Rattle.size_field.proofs.AllPieces.{pieces_are, pieces_untangled}

-- ---- what the edges of a segment give to a domain winds as the segment does
back_cross : (q : RatPoint) (e : Edge) → cross q (back e) ≡ pos 0 -ℤ cross q e
back_cross q e = turned (cross q e) (cross q (back e)) (wind_back q e.a e.b)
  where
    turned : (x y : ℤ) → x +ℤ (y +ℤ pos 0) ≡ pos 0 → y ≡ pos 0 -ℤ x
    turned x y h = omega (arith, ints)

-- the winding number that a side takes of one that goes forwards
abbrev on_side : Bool → Bool → ℤ → ℤ
on_side true true z = pos 0
on_side true false z = z
on_side false true z = pos 0 -ℤ z
on_side false false z = pos 0

abbrev pub turned_by : Bool → Bool → Edge → List Edge
turned_by left right e = with_edge left e (with_edge right (back e) [])

one_turned : (q : RatPoint) (left right : Bool) (e : Edge) → wind q (turned_by left right e) ≡ on_side left right (cross q e)
one_turned q true true e = wind_back q e.a e.b
one_turned q true false e = alone (cross q e)
  where
    alone : (z : ℤ) → z +ℤ pos 0 ≡ z
    alone z = omega (arith, ints)
one_turned q false true e = ap (λ (z : ℤ). z +ℤ pos 0) (back_cross q e) ∙ alone (pos 0 -ℤ cross q e)
  where
    alone : (z : ℤ) → z +ℤ pos 0 ≡ z
    alone z = omega (arith, ints)
one_turned q false false e = refl

side_sum : (left right : Bool) (x y : ℤ) → on_side left right x +ℤ on_side left right y ≡ on_side left right (x +ℤ y)
side_sum true true x y = refl
side_sum true false x y = refl
side_sum false true x y = omega (arith, ints)
side_sum false false x y = refl

side_none : (left right : Bool) → pos 0 ≡ on_side left right (pos 0)
side_none true true = refl
side_none true false = refl
side_none false true = refl
side_none false false = refl

turned_wind : (q : RatPoint) (left right : Bool) (es : List Edge) → wind q (flat_map (turned_by left right) es) ≡ on_side left right (wind q es)
turned_wind q left right [] = side_none left right
turned_wind q left right (e ∷ es) =
    wind_append q (turned_by left right e) (flat_map (turned_by left right) es)
    ∙ (λ i. one_turned q left right e i +ℤ turned_wind q left right es i)
    ∙ side_sum left right (cross q e) (wind q es)

same_turned : (q : RatPoint) (left right : Bool) (es : List Edge) (e : Edge) → wind q es ≡ wind q (e ∷ []) → wind q (flat_map (turned_by left right) es) ≡ wind q (turned_by left right e)
same_turned q left right es e h =
    turned_wind q left right es ∙ ap (on_side left right) (h ∙ alone (cross q e)) ∙ sym (one_turned q left right e)
  where
    alone : (z : ℤ) → z +ℤ pos 0 ≡ z
    alone z = omega (arith, ints)

-- ---- the pieces of one segment in a domain's boundary
pub segment_after : (all before : List Segment) (s : Segment) (ss : List Segment) (a b : Point) → all ≡ before ++ s ∷ ss → segment_of all (record { segment = length before + 1; a = a; b = b }) ≡ s
segment_after all before s ss a b h =
    let back_to : length before + 1 - 1 ≡ length before = omega arith in
    let none : Segment = record { left = 0; right = 0; p = 0; q = 0; bc = 0; maxh = None } in
    (λ i. slice_index_or (h i) (back_to i) none) ∙ get_or-append_seam before s ss none

pub of_segment : (d : ℕ) (all : List Segment) (s : Segment) (n : ℕ) (es : List Edge) → ((a b : Point) → segment_of all (record { segment = n; a = a; b = b }) ≡ s) → piece_boundary d all (map (piece_of n) es) ≡ flat_map (turned_by (s.left == d) (s.right == d)) es
of_segment d all s n [] is = refl
of_segment d all s n (e ∷ es) is = (λ i. turned_to d (is e.a e.b i) e ++ of_segment d all s n es is i)

pub boundary_append : (d : ℕ) (all : List Segment) (ps qs : List Piece) → piece_boundary d all (ps ++ qs) ≡ piece_boundary d all ps ++ piece_boundary d all qs
boundary_append d all [] qs = refl
boundary_append d all (p ∷ ps) qs =
    ap (λ (es : List Edge). turned_to d (segment_of all p) (piece_edge p) ++ es) (boundary_append d all ps qs)
    ∙ sym (append_assoc (turned_to d (segment_of all p) (piece_edge p)) (piece_boundary d all ps) (piece_boundary d all qs))

pub with_turned : (left right : Bool) (e : Edge) (rest : List Edge) → with_edge left e (with_edge right (back e) rest) ≡ turned_by left right e ++ rest
with_turned true true e rest = refl
with_turned true false e rest = refl
with_turned false true e rest = refl
with_turned false false e rest = refl

-- ---- all segments after some
wind_after : (q : RatPoint) (d : ℕ) (points : List Point) (cut : Segment → List Edge) (all before ss : List Segment) → all ≡ before ++ ss → AllByRecursion (λ s. wind q (cut s) ≡ wind q (edge_of points s ∷ [])) ss
    → wind q (piece_boundary d all (pieces_from cut (length before + 1) ss)) ≡ wind q (boundary points d ss)
wind_after q d points cut all before [] h each = refl
wind_after q d points cut all before (s ∷ ss) h each =
    let here : piece_boundary d all (map (piece_of (length before + 1)) (cut s)) ≡ flat_map (turned_by (s.left == d) (s.right == d)) (cut s) =
    of_segment d all s (length before + 1) (cut s) (λ a b. segment_after all before s ss a b h) in
    let rest : wind q (piece_boundary d all (pieces_from cut (length before + 1 + 1) ss)) ≡ wind q (boundary points d ss) =
    ap (λ (n : ℕ). wind q (piece_boundary d all (pieces_from cut (n + 1) ss))) (sym (length_push before s))
    ∙ wind_after q d points cut all (before ++ s ∷ []) ss (h ∙ sym (append_assoc before (s ∷ []) ss)) each.1 in
    ap (wind q) (boundary_append d all (map (piece_of (length before + 1)) (cut s)) (pieces_from cut (length before + 1 + 1) ss))
    ∙ wind_append q (piece_boundary d all (map (piece_of (length before + 1)) (cut s))) (piece_boundary d all (pieces_from cut (length before + 1 + 1) ss))
    ∙ (λ i. (ap (wind q) here ∙ same_turned q (s.left == d) (s.right == d) (cut s) (edge_of points s) each.0) i +ℤ rest i)
    ∙ sym (wind_append q (turned_by (s.left == d) (s.right == d) (edge_of points s)) (boundary points d ss))
    ∙ ap (wind q) (sym (with_turned (s.left == d) (s.right == d) (edge_of points s) (boundary points d ss)))

pub pieces_wind : (g : PlanarMap) (greatest grading d : ℕ) (q : RatPoint) → IsGeometry g → IsRational q → wind q (piece_boundary d g.segments (pieces_of g greatest grading)) ≡ wind q (boundary g.points d g.segments)
pieces_wind g greatest grading d q h kq =
    wind_after q d g.points (parts_of g greatest grading) g.segments [] g.segments refl
    (all_map (λ s. IsPart (edge_of g.points s)) (λ s. wind q (parts_of g greatest grading s) ≡ wind q (edge_of g.points s ∷ []))
    (λ s part. parts_wind q (bound g greatest grading s) MOST_HALVINGS (edge_of g.points s).a (edge_of g.points s).b kq part) g.segments (segments_parts g h))

-- ---- no two edges of a boundary tangle
turned_all : (P : Edge → Type 0) (left right : Bool) (e : Edge) (rest : List Edge) → P e → P (back e) → AllByRecursion P rest → AllByRecursion P (turned_by left right e ++ rest)
turned_all P true true e rest p r h = (p, (r, h))
turned_all P true false e rest p r h = (p, h)
turned_all P false true e rest p r h = (r, h)
turned_all P false false e rest p r h = h

-- a fact of each piece's edge and of its reverse holds of each edge of a boundary
boundary_all : (P : Edge → Type 0) → ((e : Edge) → P e → P (back e)) → (d : ℕ) (all : List Segment) (ps : List Piece) → AllByRecursion P (map piece_edge ps) → AllByRecursion P (piece_boundary d all ps)
boundary_all P turn d all [] h = tt
boundary_all P turn d all (p ∷ ps) h =
    let s = segment_of all p in
    turned_all P (s.left == d) (s.right == d) (piece_edge p) (piece_boundary d all ps) h.0 (turn (piece_edge p) h.0) (boundary_all P turn d all ps h.1)

turned_free : (left right : Bool) (e : Edge) (rest : List Edge) → (left ≡ true → right ≡ true → ⊥) → AllByRecursion (λ f. ¬ (DoEdgesTangle e f)) rest → AreFreeOf DoEdgesTangle rest → AreFreeOf DoEdgesTangle (turned_by left right e ++ rest)
turned_free true true e rest n h i = absurd (n refl refl)
turned_free true false e rest n h i = (h, i)
turned_free false true e rest n h i = (all_map (λ f. ¬ (DoEdgesTangle e f)) (λ f. ¬ (DoEdgesTangle (back e) f)) (λ f t r. t (tangle_back_first (back e) f r)) rest h, i)
turned_free false false e rest n h i = i

same_number : (m n : ℕ) → (m == n) ≡ true → m ≡ n
same_number m n e = grind arith

boundary_free : (d : ℕ) (all : List Segment) (ps : List Piece) → AllByRecursion (λ p. HasDifferentDomains (segment_of all p)) ps → AreFreeOf DoEdgesTangle (map piece_edge ps) → AreFreeOf DoEdgesTangle (piece_boundary d all ps)
boundary_free d all [] n h = tt
boundary_free d all (p ∷ ps) n h =
    let s = segment_of all p in
    turned_free (s.left == d) (s.right == d) (piece_edge p) (piece_boundary d all ps) (λ i j. n.0 (same_number s.left d i ∙ sym (same_number s.right d j)))
    (boundary_all (λ f. ¬ (DoEdgesTangle (piece_edge p) f)) (λ f t r. t (tangle_two_way.later (piece_edge p) f r)) d all ps h.0) (boundary_free d all ps n.1 h.1)

two_sided : (all : List Segment) (p : Piece) → All HasDifferentDomains all → IsPiece (length all) p → HasDifferentDomains (segment_of all p)
two_sided all p sides piece = sides (p.segment - 1) (record { left = 0; right = 0; p = 0; q = 0; bc = 0; maxh = None }) (omega (arith, piece.of_segment.first, piece.of_segment.last))

pub boundary_untangled : (g : PlanarMap) (greatest grading d : ℕ) → IsGeometry g → AreUntangled (piece_boundary d g.segments (pieces_of g greatest grading))
boundary_untangled g greatest grading d h =
    let untangled = pieces_untangled g greatest grading h in
    record {
      edges = boundary_all (λ e. ¬ (e.a ≡ e.b)) (λ e n i. n (sym i)) d g.segments (pieces_of g greatest grading) untangled.edges;
      free = boundary_free d g.segments (pieces_of g greatest grading)
          (all_map (IsPiece (length g.segments)) (λ p. HasDifferentDomains (segment_of g.segments p)) (λ p piece. two_sided g.segments p h.planar.sides piece) (pieces_of g greatest grading) (pieces_are g greatest grading h))
          untangled.free;
    }

-- ---- two domains
later_chosen : (e f : Edge) (es : List Edge) → IsChosen es f → IsChosen (e ∷ es) f
later_chosen e f es (inl i) = inl (inr i)
later_chosen e f es (inr i) = inr (inr i)

all_chosen : (es : List Edge) → AllByRecursion (IsChosen es) es
all_chosen [] = tt
all_chosen (e ∷ es) = (inl (inl refl), all_map (IsChosen es) (IsChosen (e ∷ es)) (λ f. later_chosen e f es) es (all_chosen es))

back_chosen : (es : List Edge) (f : Edge) → IsChosen es f → IsChosen es (back f)
back_chosen es f (inl i) = inr i
back_chosen es f (inr i) = inl i

pub boundaries_apart : (g : PlanarMap) (greatest grading c d : ℕ) → IsGeometry g → AreOneOrApart (piece_boundary c g.segments (pieces_of g greatest grading)) (piece_boundary d g.segments (pieces_of g greatest grading))
boundaries_apart g greatest grading c d h =
    let pieces = pieces_of g greatest grading in let es = map piece_edge pieces in
    let chosen : (d : ℕ) → AllByRecursion (IsChosen es) (piece_boundary d g.segments pieces) = λ d. boundary_all (IsChosen es) (back_chosen es) d g.segments pieces (all_chosen es) in
    chosen_pieces es (piece_boundary c g.segments pieces) (piece_boundary d g.segments pieces) (pieces_untangled g greatest grading h).free (chosen c) (chosen d)
