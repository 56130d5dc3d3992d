-- A domain's opening front is its boundary.
use Rattle.std.proofs.Common.{◌≡◌, ℕ, ◌+◌, ◌-◌, ◌<◌, ◌==◌, Bool, true, false, not, ◌||◌, cond, List, [], ◌∷◌, ◌++◌, map, filter, length, slice_index_or, None, refl, ap, sym, ◌∙◌, append_assoc, true≢false, arith, pos}
use Rattle.std.proofs.lemmas.List.Elements.{All-map}
use Rattle.std.specs.List.{All, list_any, position_or_len}
use Rattle.std.proofs.Math.Seq.{get_or-append_seam}
use Rattle.std.proofs.lemmas.List.{length_push}
use Rattle.std.proofs.lemmas.List.Sums.{passes_at_first}
use Rattle.grid_geom.specs.declared.Point.{Point}
use Rattle.grid_geom.specs.declared.Edge.{Edge}
use Rattle.grid_geom.specs.Closed.{same_point}
use Rattle.geom_check.specs.declared.kinds.Segment.{Segment}
use Rattle.geom_check.specs.Boundary.{point_at, edge_of, back, with_edge, boundary}
use Rattle.size_field.specs.declared.pieces.Piece.{Piece}
use Rattle.mesh_run.specs.Boundary.{IsNumberTo, piece_boundary, piece_edge, segment_of, turned_to, whole_pieces, whole_pieces_from}
use Rattle.mesh_run.specs.Numbering.{ends_of, is_among, number_in}
use Rattle.mesh_run.specs.Opening.{mesh_points, domain_points, numbered, opening_lines, front_from, unmeshed_run, front_edges}
use Rattle.geom_check.specs.Domains.{domain_numbers}
use Rattle.mesh_run.specs.Whole.{unmeshed_runs}
use Rattle.mesh_run.proofs.Ranges.{all_of}
use Rattle.mesh_run.proofs.Listed.{same_place, same_itself, among_first}

-- a list where some element passes has a first that does
pub first_within : {X : Type 0} (test : X → Bool) (xs : List X) → list_any test xs ≡ true → position_or_len test xs < length xs
first_within test [] h = absurd (true≢false (sym h))
first_within test (x ∷ xs) h = by (test x) h (first_within test xs)
  where
    by : (b : Bool) → (b || list_any test xs) ≡ true → (list_any test xs ≡ true → position_or_len test xs < length xs) → cond (not b) (1 + position_or_len test xs) 0 < length (x ∷ xs)
    by true k rest = omega arith
    by false k rest = let r = rest k in omega arith

-- a point among others is the one with its number
pub at_number : (ps : List Point) (p : Point) → is_among ps p ≡ true → point_at ps (number_in ps p) ≡ p
at_number ps p h =
    let within = first_within (same_point p) ps h in
    let back : position_or_len (same_point p) ps + 1 - 1 ≡ position_or_len (same_point p) ps = omega arith in
    ap (λ (k : ℕ). slice_index_or ps k (record { x = pos 0; y = pos 0 })) back
    ∙ sym (same_place p (slice_index_or ps (position_or_len (same_point p) ps) (record { x = pos 0; y = pos 0 })) (passes_at_first (same_point p) ps (record { x = pos 0; y = pos 0 }) within))

pub number_within : (ps : List Point) (p : Point) → is_among ps p ≡ true → IsNumberTo (length ps) (number_in ps p)
number_within ps p h = let within = first_within (same_point p) ps h in record { first = omega arith; last = omega arith }

-- each of the points is among the others
pub record AreAmong (few many : List Point) : Type 0 where
  pub kept : (x : Point) → is_among few x ≡ true → is_among many x ≡ true

or_first : (a b : Bool) → a ≡ true → (a || b) ≡ true
or_first a b h = ap (λ (c : Bool). c || b) h

or_last : (a b : Bool) → b ≡ true → (a || b) ≡ true
or_last true b h = refl
or_last false b h = h

pub start_among : (e : Edge) (es : List Edge) → is_among (ends_of (e ∷ es)) e.a ≡ true
start_among e es = or_first (same_point e.a e.a) (same_point e.a e.b || is_among (ends_of es) e.a) (same_itself e.a)

pub end_among : (e : Edge) (es : List Edge) → is_among (ends_of (e ∷ es)) e.b ≡ true
end_among e es =
    or_last (same_point e.b e.a) (same_point e.b e.b || is_among (ends_of es) e.b)
    (or_first (same_point e.b e.b) (is_among (ends_of es) e.b) (same_itself e.b))

later_among : (e : Edge) (es : List Edge) (x : Point) → is_among (ends_of es) x ≡ true → is_among (ends_of (e ∷ es)) x ≡ true
later_among e es x h = or_last (same_point x e.a) (same_point x e.b || is_among (ends_of es) x) (or_last (same_point x e.b) (is_among (ends_of es) x) h)

pub ends_after : (e : Edge) (es : List Edge) (many : List Point) → AreAmong (ends_of (e ∷ es)) many → AreAmong (ends_of es) many
ends_after e es many h = record { kept = λ x k. h.kept x (later_among e es x k) }

-- edges by the numbers of their ends, read back
abbrev pub edge_at : List Point → ℕ × ℕ → Edge
edge_at ps line = record { a = point_at ps line.0; b = point_at ps line.1 }

pub read_back : (ps : List Point) (es : List Edge) → AreAmong (ends_of es) ps → map (edge_at ps) (numbered ps es) ≡ es
read_back ps [] h = refl
read_back ps (e ∷ es) h =
    let a_is = at_number ps e.a (h.kept e.a (start_among e es)) in
    let b_is = at_number ps e.b (h.kept e.b (end_among e es)) in
    λ i. record { a = a_is i; b = b_is i } ∷ read_back ps es (ends_after e es ps h) i

-- a front's lines are the opening lines
pub front_lines : {X : Type 0} (f : ℕ × ℕ → X) (n : ℕ) (lines : List (ℕ × ℕ)) → map (λ (line : ℕ × ℕ × ℕ). f (line.1, line.2)) (front_from n lines) ≡ map f lines
front_lines f n [] = refl
front_lines f n (line ∷ lines) = λ i. f line ∷ front_lines f (n + 1) lines i

or_more : (c a b : Bool) → (a ≡ true → b ≡ true) → (c || a) ≡ true → (c || b) ≡ true
or_more true a b f h = refl
or_more false a b f h = f h

or_other : (c a : Bool) → (c ≡ true → ⊥) → (c || a) ≡ true → a ≡ true
or_other true a never h = absurd (never refl)
or_other false a never h = h

pub among_filter : (test : Point → Bool) (ps : List Point) (x : Point) → test x ≡ true → is_among ps x ≡ true → is_among (filter test ps) x ≡ true
among_filter test [] x t h = h
among_filter test (p ∷ ps) x t h = by (test p) refl (among_filter test ps x t)
  where
    by : (b : Bool) → test p ≡ b → (is_among ps x ≡ true → is_among (filter test ps) x ≡ true) → is_among (cond b (p ∷ filter test ps) (filter test ps)) x ≡ true
    by true e rest = or_more (same_point x p) (is_among ps x) (is_among (filter test ps) x) rest h
    by false e rest =
        rest (or_other (same_point x p) (is_among ps x) (λ same. true≢false (sym t ∙ ap test (same_place x p same) ∙ e)) h)

-- the ends of what an edge gives to a boundary are ends of the edge
either_end : (a b r : Bool) → (b || (a || r)) ≡ true → (a || (b || r)) ≡ true
either_end true b r h = refl
either_end false b r h = h

both_ends : (a b r : Bool) → (a || (b || (b || (a || r)))) ≡ true → (a || (b || r)) ≡ true
both_ends true b r h = refl
both_ends false true r h = refl
both_ends false false r h = h

turned_ends : (left right : Bool) (e : Edge) (rest : List Edge) (x : Point)
    → is_among (ends_of (with_edge left e (with_edge right (back e) []) ++ rest)) x ≡ true → is_among (ends_of (e ∷ rest)) x ≡ true
turned_ends true true e rest x h = both_ends (same_point x e.a) (same_point x e.b) (is_among (ends_of rest) x) h
turned_ends true false e rest x h = h
turned_ends false true e rest x h = either_end (same_point x e.a) (same_point x e.b) (is_among (ends_of rest) x) h
turned_ends false false e rest x h = later_among e rest x h

-- the ends of a domain's boundary are ends of pieces
boundary_ends : (d : ℕ) (segments : List Segment) (pieces : List Piece) (x : Point)
    → is_among (ends_of (piece_boundary d segments pieces)) x ≡ true → is_among (ends_of (map piece_edge pieces)) x ≡ true
boundary_ends d segments [] x h = h
boundary_ends d segments (p ∷ ps) x h =
    let s = segment_of segments p in let e = piece_edge p in let rest = piece_boundary d segments ps in
    or_more (same_point x p.a) (same_point x p.b || is_among (ends_of rest) x) (same_point x p.b || is_among (ends_of (map piece_edge ps)) x)
    (or_more (same_point x p.b) (is_among (ends_of rest) x) (is_among (ends_of (map piece_edge ps)) x) (boundary_ends d segments ps x))
    (turned_ends (s.left == d) (s.right == d) e rest x h)

-- each end of a domain's boundary is one of its points
pub ends_listed : (d : ℕ) (segments : List Segment) (pieces : List Piece) → AreAmong (ends_of (piece_boundary d segments pieces)) (domain_points d segments pieces)
ends_listed d segments pieces = record {
  kept = λ x h. among_filter (is_among (ends_of (piece_boundary d segments pieces))) (mesh_points pieces) x h
      (ap (λ (f : Point → Bool). f x) (among_first (ends_of (map piece_edge pieces))) ∙ boundary_ends d segments pieces x h);
}

-- the front of a domain's opening state, as edges, is the domain's boundary in pieces
pub front_is_boundary : (d : ℕ) (segments : List Segment) (pieces : List Piece) → front_edges (unmeshed_run d segments pieces) ≡ piece_boundary d segments pieces
front_is_boundary d segments pieces =
    front_lines (edge_at (domain_points d segments pieces)) 1 (opening_lines d segments pieces)
    ∙ read_back (domain_points d segments pieces) (piece_boundary d segments pieces) (ends_listed d segments pieces)

with_edge_append : (b : Bool) (e : Edge) (es fs : List Edge) → with_edge b e (es ++ fs) ≡ with_edge b e es ++ fs
with_edge_append true e es fs = refl
with_edge_append false e es fs = refl

turned_append : (left right : Bool) (e : Edge) (rest : List Edge)
    → with_edge left e (with_edge right (back e) []) ++ rest ≡ with_edge left e (with_edge right (back e) rest)
turned_append true true e rest = refl
turned_append true false e rest = refl
turned_append false true e rest = refl
turned_append false false e rest = refl

segment_after : (all before : List Segment) (s : Segment) (ss : List Segment) (a b : Point) → all ≡ before ++ s ∷ ss
    → segment_of all (record { segment = length before + 1; a = a; b = b }) ≡ s
segment_after all before s ss a b h =
    let back : length before + 1 - 1 ≡ length before = omega arith in
    let none : Segment = record { left = 0; right = 0; p = 0; q = 0; bc = 0; maxh = None } in
    (λ i. slice_index_or (h i) (back i) none) ∙ get_or-append_seam before s ss none

-- segments after `before`, as pieces, bound a domain as they do themselves
whole_after : (d : ℕ) (points : List Point) (all before segments : List Segment) → all ≡ before ++ segments
    → piece_boundary d all (whole_pieces_from (length before + 1) points segments) ≡ boundary points d segments
whole_after d points all before [] h = refl
whole_after d points all before (s ∷ ss) h =
    let at : segment_of all (record { segment = length before + 1; a = point_at points s.p; b = point_at points s.q }) ≡ s = segment_after all before s ss (point_at points s.p) (point_at points s.q) h in
    let rest : piece_boundary d all (whole_pieces_from (length before + 1 + 1) points ss) ≡ boundary points d ss =
    ap (λ (n : ℕ). piece_boundary d all (whole_pieces_from (n + 1) points ss)) (sym (length_push before s))
    ∙ whole_after d points all (before ++ s ∷ []) ss (h ∙ sym (append_assoc before (s ∷ []) ss)) in
    (λ i. turned_to d (at i) (edge_of points s) ++ rest i) ∙ turned_append (s.left == d) (s.right == d) (edge_of points s) (boundary points d ss)

-- pieces that are whole segments bound a domain as the segments do
pub whole_boundary : (d : ℕ) (points : List Point) (segments : List Segment) → piece_boundary d segments (whole_pieces points segments) ≡ boundary points d segments
whole_boundary d points segments = whole_after d points segments [] segments refl

-- each run's front is its domain's boundary in pieces
pub fronts_are_boundaries : (segments : List Segment) (pieces : List Piece) → All (λ r. front_edges r ≡ piece_boundary r.domain segments pieces) (unmeshed_runs segments pieces)
fronts_are_boundaries segments pieces =
    All-map (λ r. front_edges r ≡ piece_boundary r.domain segments pieces) (λ d. unmeshed_run d segments pieces) (domain_numbers segments)
    (all_of (λ d. front_edges (unmeshed_run d segments pieces) ≡ piece_boundary d segments pieces) (λ d. front_is_boundary d segments pieces) (domain_numbers segments))

-- and its domain's boundary, where no segment is cut
pub fronts_are_whole_boundaries : (points : List Point) (segments : List Segment) → All (λ r. front_edges r ≡ boundary points r.domain segments) (unmeshed_runs segments (whole_pieces points segments))
fronts_are_whole_boundaries points segments =
    let pieces = whole_pieces points segments in
    All-map (λ r. front_edges r ≡ boundary points r.domain segments) (λ d. unmeshed_run d segments pieces) (domain_numbers segments)
    (all_of (λ d. front_edges (unmeshed_run d segments pieces) ≡ boundary points d segments)
    (λ d. front_is_boundary d segments pieces ∙ whole_boundary d points segments) (domain_numbers segments))
