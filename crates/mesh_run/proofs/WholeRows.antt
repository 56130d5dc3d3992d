-- The edge rows of a run's mesh walk the segments of its geometry: the pieces of each segment lead from its first end to its last, and a piece's ends are mesh points.
use Rattle.std.proofs.Common.{◌≡◌, ℕ, ◌+◌, List, [], ◌∷◌, ◌++◌, map, length, refl, sym, ap, ◌∙◌, subst, append_assoc, inl, true}
use Rattle.std.specs.List.{AllByRecursion}
use Rattle.std.proofs.lemmas.List.{length_push, map-append}
use Rattle.grid_geom.specs.declared.Point.{Point}
use Rattle.grid_geom.specs.declared.Edge.{Edge}
use Rattle.geom_check.specs.declared.kinds.Segment.{Segment}
use Rattle.geom_check.specs.Boundary.{edge_of}
use Rattle.geom_check.specs.Geometry.{PlanarMap, IsGeometry}
use Rattle.size_field.specs.declared.cutting.TheConstants.{MOST_HALVINGS}
use Rattle.size_field.specs.declared.pieces.Piece.{Piece}
use Rattle.size_field.specs.Boundary.{piece_edge, segment_of}
use Rattle.size_field.specs.Cutting.{bound, parts_of, piece_of, pieces_from, pieces_of}
use Rattle.size_field.specs.Parts.{IsPart}
use Rattle.size_field.proofs.Bounds.{segment_after}
use Rattle.size_field.proofs.Rows.{segments_parts}
use Rattle.state_law.proofs.Lists.{all_first, all_second}
use Rattle.mesh_check.specs.Parts.{row_edge}
use Rattle.mesh_check.specs.Walked.{DoesMove, DoesLead, DoWalk, Places}
use Rattle.mesh_run.specs.Mesh.{edge_row}
use Rattle.mesh_run.specs.Numbering.{ends_of, is_among}
use Rattle.mesh_run.specs.Opening.{mesh_points}
use Rattle.mesh_run.proofs.Bounded.{AreAmong, end_among, ends_after, start_among}
use Rattle.mesh_run.proofs.Named.{pieces_listed}
use Rattle.mesh_run.proofs.Strides.{DoLead, parts_lead}
use Rattle.mesh_run.proofs.Written.{old_place}

-- both ends of an edge are among the points
abbrev pub AreEndsAmong : List Point → Edge → Type 0
AreEndsAmong mesh e = (is_among mesh e.a ≡ true) × (is_among mesh e.b ≡ true)

all_ends : (es : List Edge) (mesh : List Point) → AreAmong (ends_of es) mesh → AllByRecursion (AreEndsAmong mesh) es
all_ends [] mesh h = tt
all_ends (e ∷ es) mesh h = ((h.kept e.a (start_among e es), h.kept e.b (end_among e es)), all_ends es mesh (ends_after e es mesh h))

pub pieces_among : (pieces : List Piece) → AllByRecursion (AreEndsAmong (mesh_points pieces)) (map piece_edge pieces)
pieces_among pieces = all_ends (map piece_edge pieces) (mesh_points pieces) (pieces_listed pieces)

-- a piece's row has the piece's places
pub row_places : (mesh more : List Point) (all : List Segment) (p : Piece) → AreEndsAmong mesh (piece_edge p) → row_edge (mesh ++ more) (edge_row mesh all p) ≡ piece_edge p
row_places mesh more all p h = λ i. record { a = old_place mesh more p.a h.0 i; b = old_place mesh more p.b h.1 i }

-- the rows of a segment's edges lead as these do
rows_lead : (ps : Places) (mesh more : List Point) (all : List Segment) (n : ℕ) (s : Segment) (from to : Point) (es : List Edge) → ps.of_mesh ≡ mesh ++ more
    → ((e : Edge) → segment_of all (piece_of n e) ≡ s) → AllByRecursion (AreEndsAmong mesh) es → DoLead (edge_of ps.of_geometry s).b from es to
    → DoesLead ps n s from (map (edge_row mesh all) (map (piece_of n) es)) to
rows_lead ps mesh more all n s from to [] points is among h = h
rows_lead ps mesh more all n s from to (e ∷ es) points is among h =
    let row = edge_row mesh all (piece_of n e) in
    let places : row_edge ps.of_mesh row ≡ e =
    ap (λ (qs : List Point). row_edge qs row) points ∙ row_places mesh more all (piece_of n e) among.0 in (
      record {
        moves = subst (DoesMove from (edge_of ps.of_geometry s).b) (sym places) h.0;
        labelled = record { left = ap (λ (t : Segment). t.left) (is e); right = ap (λ (t : Segment). t.right) (is e); bc = ap (λ (t : Segment). t.bc) (is e); segment = refl };
      },
      rows_lead ps mesh more all n s (row_edge ps.of_mesh row).b to es points is among.1
          (subst (λ (p : Point). DoLead (edge_of ps.of_geometry s).b p es to) (ap (λ (f : Edge). f.b) (sym places)) h.1),
    )

edges_of_pieces : (n : ℕ) (es : List Edge) → map piece_edge (map (piece_of n) es) ≡ es
edges_of_pieces n [] = refl
edges_of_pieces n (e ∷ es) = ap (λ (fs : List Edge). e ∷ fs) (edges_of_pieces n es)

-- the segments from one on, after those before it
rows_walk : (g : PlanarMap) (greatest grading : ℕ) (ps : Places) (mesh more : List Point) (before ss : List Segment) → ps.of_mesh ≡ mesh ++ more → ps.of_geometry ≡ g.points → g.segments ≡ before ++ ss
    → AllByRecursion (λ s. IsPart (edge_of g.points s)) ss → AllByRecursion (AreEndsAmong mesh) (map piece_edge (pieces_from (parts_of g greatest grading) (length before + 1) ss))
    → DoWalk ps (length before + 1) ss (map (edge_row mesh g.segments) (pieces_from (parts_of g greatest grading) (length before + 1) ss))
rows_walk g greatest grading ps mesh more before [] points places all part among = refl
rows_walk g greatest grading ps mesh more before (s ∷ ss) points places all part among =
    let n = length before + 1 in let es = parts_of g greatest grading s in
    let mine = map (piece_of n) es in let later = pieces_from (parts_of g greatest grading) (n + 1) ss in
    let split : AllByRecursion (AreEndsAmong mesh) (map piece_edge mine ++ map piece_edge later) = subst (AllByRecursion (AreEndsAmong mesh)) (map-append piece_edge mine later) among in
    let own : AllByRecursion (AreEndsAmong mesh) es = subst (AllByRecursion (AreEndsAmong mesh)) (edges_of_pieces n es) (all_first (AreEndsAmong mesh) (map piece_edge mine) (map piece_edge later) split) in
    let rest : AllByRecursion (AreEndsAmong mesh) (map piece_edge later) = all_second (AreEndsAmong mesh) (map piece_edge mine) (map piece_edge later) split in
    let leads : DoLead (edge_of g.points s).b (edge_of g.points s).a es (edge_of g.points s).b = parts_lead (bound g greatest grading s) MOST_HALVINGS (edge_of g.points s).a (edge_of g.points s).b (edge_of g.points s).b part.0 (inl refl) in
    let next : length (before ++ s ∷ []) + 1 ≡ n + 1 = ap (λ (k : ℕ). k + 1) (length_push before s) in
    record {
      own = map (edge_row mesh g.segments) mine;
      rest = map (edge_row mesh g.segments) later;
      parts = map-append (edge_row mesh g.segments) mine later;
      leads = subst (λ (qs : List Point). DoesLead ps n s (edge_of qs s).a (map (edge_row mesh g.segments) mine) (edge_of qs s).b) (sym places)
          (rows_lead ps mesh more g.segments n s (edge_of g.points s).a (edge_of g.points s).b es points (λ e. segment_after g.segments before s ss e.a e.b all) own
          (subst (λ (qs : List Point). DoLead (edge_of qs s).b (edge_of g.points s).a es (edge_of g.points s).b) (sym places) leads));
      others = subst (λ (k : ℕ). DoWalk ps k ss (map (edge_row mesh g.segments) (pieces_from (parts_of g greatest grading) k ss))) next
          (rows_walk g greatest grading ps mesh more (before ++ s ∷ []) ss points places (all ∙ sym (append_assoc before (s ∷ []) ss)) part.1
          (subst (λ (k : ℕ). AllByRecursion (AreEndsAmong mesh) (map piece_edge (pieces_from (parts_of g greatest grading) k ss))) (sym next) rest));
    }

pub all_rows_walk : (g : PlanarMap) (greatest grading : ℕ) (more : List Point) → IsGeometry g
    → DoWalk (record { of_geometry = g.points; of_mesh = mesh_points (pieces_of g greatest grading) ++ more }) 1 g.segments (map (edge_row (mesh_points (pieces_of g greatest grading)) g.segments) (pieces_of g greatest grading))
all_rows_walk g greatest grading more h =
    rows_walk g greatest grading (record { of_geometry = g.points; of_mesh = mesh_points (pieces_of g greatest grading) ++ more }) (mesh_points (pieces_of g greatest grading)) more [] g.segments refl refl refl
    (segments_parts g h) (pieces_among (pieces_of g greatest grading))
