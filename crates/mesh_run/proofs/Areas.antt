-- The pieces round a domain have the doubled area of its segments: an edge has that of the pieces into which it is cut, one cut after another.
use Rattle.std.proofs.Common.{◌≡◌, ℕ, zero, suc, ◌+◌, ◌==◌, Bool, true, false, List, [], ◌∷◌, ◌++◌, map, length, Option, Some, None, refl, sym, ap, ◌∙◌, append_assoc, arith, ℤ, pos, ◌+ℤ◌, ◌-ℤ◌}
use Rattle.std.specs.List.{AllByRecursion, flat_map}
use Rattle.std.proofs.lemmas.Int.{ints}
use Rattle.std.proofs.lemmas.List.{length_push}
use Rattle.grid_geom.specs.declared.Point.{Point}
use Rattle.grid_geom.specs.declared.Edge.{Edge}
use Rattle.grid_geom.specs.Area.{sweep_of, shoelace}
use Rattle.grid_geom.proofs.Areas.{shoelace-append}
use Rattle.wind_law.specs.Chains.{back, edge}
use Rattle.wind_law.proofs.SameChain.{area_back, area_cut}
use Rattle.geom_check.specs.declared.kinds.Segment.{Segment}
use Rattle.geom_check.specs.Boundary.{boundary, edge_of}
use Rattle.geom_check.specs.Geometry.{PlanarMap, IsGeometry}
use Rattle.state_law.proofs.Lists.{all_map}
use Rattle.size_field.specs.declared.cutting.TheConstants.{MOST_HALVINGS}
use Rattle.size_field.specs.Boundary.{piece_boundary}
use Rattle.size_field.specs.Cutting.{bound, cut_at, on_both_sides, parts, parts_of, piece_of, pieces_from, pieces_of}
use Rattle.size_field.specs.Parts.{IsPart}
use Rattle.size_field.proofs.PartLaws.{halves}
use Rattle.size_field.proofs.Rows.{segments_parts}
use Rattle.size_field.proofs.Bounds.{turned_by, of_segment, segment_after, boundary_append, with_turned}

-- ---- the pieces of an edge
parts_area : (bound : Point → ℕ) (n : ℕ) (a b : Point) → IsPart (edge a b) → shoelace (parts bound n a b) ≡ shoelace (edge a b ∷ [])
unfolding parts
parts_area bound zero a b part = refl
parts_area bound (suc n) a b part = by (λ c d h. parts_area bound n c d h) (cut_at bound a b) refl
  where
    by : ((c d : Point) → IsPart (edge c d) → shoelace (parts bound n c d) ≡ shoelace (edge c d ∷ [])) → (o : Option Point) → cut_at bound a b ≡ o → shoelace (on_both_sides (parts bound n) a b o) ≡ shoelace (edge a b ∷ [])
    by each None e = refl
    by each (Some m) e =
        let two = halves bound a b m part e in
        shoelace-append (parts bound n a m) (parts bound n m b)
        ∙ (λ i. each a m two.first i +ℤ each m b two.second i)
        ∙ sym (shoelace-append (edge a m ∷ []) (edge m b ∷ []))
        ∙ area_cut a b m two.on_open.straight

-- ---- on the sides of a segment
alone : (z : ℤ) → z +ℤ pos 0 ≡ z
alone z = omega (arith, ints)

back_sweep : (e : Edge) → sweep_of (back e) ≡ pos 0 -ℤ sweep_of e
back_sweep e = turned (sweep_of e) (sweep_of (back e)) (area_back e.a e.b)
  where
    turned : (x y : ℤ) → x +ℤ (y +ℤ pos 0) ≡ pos 0 → y ≡ pos 0 -ℤ x
    turned x y h = omega (arith, ints)

-- the area that a side takes of one that goes forwards
abbrev on_side : Bool → Bool → ℤ → ℤ
on_side true true z = pos 0
on_side true false z = z
on_side false true z = pos 0 -ℤ z
on_side false false z = pos 0

one_turned : (left right : Bool) (e : Edge) → shoelace (turned_by left right e) ≡ on_side left right (sweep_of e)
one_turned true true e = area_back e.a e.b
one_turned true false e = alone (sweep_of e)
one_turned false true e = ap (λ (z : ℤ). z +ℤ pos 0) (back_sweep e) ∙ alone (pos 0 -ℤ sweep_of e)
one_turned false false e = refl

side_sum : (left right : Bool) (x y : ℤ) → on_side left right x +ℤ on_side left right y ≡ on_side left right (x +ℤ y)
side_sum true true x y = refl
side_sum true false x y = refl
side_sum false true x y = omega (arith, ints)
side_sum false false x y = refl

side_none : (left right : Bool) → pos 0 ≡ on_side left right (pos 0)
side_none true true = refl
side_none true false = refl
side_none false true = refl
side_none false false = refl

turned_area : (left right : Bool) (es : List Edge) → shoelace (flat_map (turned_by left right) es) ≡ on_side left right (shoelace es)
turned_area left right [] = side_none left right
turned_area left right (e ∷ es) =
    shoelace-append (turned_by left right e) (flat_map (turned_by left right) es)
    ∙ (λ i. one_turned left right e i +ℤ turned_area left right es i)
    ∙ side_sum left right (sweep_of e) (shoelace es)

same_turned : (left right : Bool) (es : List Edge) (e : Edge) → shoelace es ≡ shoelace (e ∷ []) → shoelace (flat_map (turned_by left right) es) ≡ shoelace (turned_by left right e)
same_turned left right es e h = turned_area left right es ∙ ap (on_side left right) (h ∙ alone (sweep_of e)) ∙ sym (one_turned left right e)

-- ---- all segments after some
area_after : (d : ℕ) (points : List Point) (cut : Segment → List Edge) (all before ss : List Segment) → all ≡ before ++ ss → AllByRecursion (λ s. shoelace (cut s) ≡ shoelace (edge_of points s ∷ [])) ss
    → shoelace (piece_boundary d all (pieces_from cut (length before + 1) ss)) ≡ shoelace (boundary points d ss)
area_after d points cut all before [] h each = refl
area_after d points cut all before (s ∷ ss) h each =
    let here : piece_boundary d all (map (piece_of (length before + 1)) (cut s)) ≡ flat_map (turned_by (s.left == d) (s.right == d)) (cut s) =
    of_segment d all s (length before + 1) (cut s) (λ a b. segment_after all before s ss a b h) in
    let rest : shoelace (piece_boundary d all (pieces_from cut (length before + 1 + 1) ss)) ≡ shoelace (boundary points d ss) =
    ap (λ (n : ℕ). shoelace (piece_boundary d all (pieces_from cut (n + 1) ss))) (sym (length_push before s))
    ∙ area_after d points cut all (before ++ s ∷ []) ss (h ∙ sym (append_assoc before (s ∷ []) ss)) each.1 in
    ap shoelace (boundary_append d all (map (piece_of (length before + 1)) (cut s)) (pieces_from cut (length before + 1 + 1) ss))
    ∙ shoelace-append (piece_boundary d all (map (piece_of (length before + 1)) (cut s))) (piece_boundary d all (pieces_from cut (length before + 1 + 1) ss))
    ∙ (λ i. (ap shoelace here ∙ same_turned (s.left == d) (s.right == d) (cut s) (edge_of points s) each.0) i +ℤ rest i)
    ∙ sym (shoelace-append (turned_by (s.left == d) (s.right == d) (edge_of points s)) (boundary points d ss))
    ∙ ap shoelace (sym (with_turned (s.left == d) (s.right == d) (edge_of points s) (boundary points d ss)))

pub pieces_area : (g : PlanarMap) (greatest grading d : ℕ) → IsGeometry g → shoelace (piece_boundary d g.segments (pieces_of g greatest grading)) ≡ shoelace (boundary g.points d g.segments)
pieces_area g greatest grading d h =
    area_after d g.points (parts_of g greatest grading) g.segments [] g.segments refl
    (all_map (λ s. IsPart (edge_of g.points s)) (λ s. shoelace (parts_of g greatest grading s) ≡ shoelace (edge_of g.points s ∷ []))
    (λ s part. parts_area (bound g greatest grading s) MOST_HALVINGS (edge_of g.points s).a (edge_of g.points s).b part) g.segments (segments_parts g h))
