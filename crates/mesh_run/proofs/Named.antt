-- Numbers that a run and its mesh name are numbers of their points.
use Rattle.std.proofs.Common.{◌≡◌, ℕ, ◌+◌, ◌≤◌, Bool, true, false, ◌||◌, List, [], ◌∷◌, ◌++◌, map, fold, length, refl, ap, sym, ◌∙◌, subst, length-append, arith, if◌then◌else◌}
use Rattle.std.specs.List.{All, AllByRecursion, IsDistinct, flat_map}
use Rattle.std.proofs.lemmas.List.Elements.{All-nil, All-cons, All-head, All-tail, All-append}
use Rattle.grid_geom.specs.declared.Point.{Point}
use Rattle.grid_geom.specs.declared.Edge.{Edge}
use Rattle.grid_geom.specs.Bounds.{IsOnGrid}
use Rattle.grid_geom.specs.Closed.{same_point}
use Rattle.geom_check.specs.declared.kinds.Segment.{Segment}
use Rattle.size_field.specs.declared.pieces.Piece.{Piece}
use Rattle.mesh_run.specs.declared.WholeRun.{WholeRun}
use Rattle.mesh_run.specs.Boundary.{IsNumberTo, IsPieceOnGrid, piece_edge, piece_boundary}
use Rattle.mesh_run.specs.Numbering.{by_first_occurrence, ends_of, is_among, number_in, with_point}
use Rattle.mesh_run.specs.Opening.{mesh_points, domain_points, numbered, front_from, unmeshed_run, FrontJoins}
use Rattle.mesh_run.specs.Mesh.{edge_row, mesh_of_run, new_points, RowJoins}
use Rattle.mesh_run.proofs.Listed.{same_place, same_itself, among_first, adds, IsFresh, among_end}
use Rattle.mesh_run.proofs.Bounded.{AreAmong, number_within, start_among, end_among, ends_after, ends_listed}

front_within : (ps : List Point) (n : ℕ) (es : List Edge) → AreAmong (ends_of es) ps → All (FrontJoins (length ps)) (front_from n (numbered ps es))
front_within ps n [] h = All-nil (FrontJoins (length ps))
front_within ps n (e ∷ es) h =
    All-cons (FrontJoins (length ps)) (n, number_in ps e.a, number_in ps e.b) (front_from (n + 1) (numbered ps es))
    (record { from = number_within ps e.a (h.kept e.a (start_among e es)); to = number_within ps e.b (h.kept e.b (end_among e es)) })
    (front_within ps (n + 1) es (ends_after e es ps h))

-- the front lines of an opening state join points of the domain
pub front_named : (d : ℕ) (segments : List Segment) (pieces : List Piece)
    → All (FrontJoins (length (unmeshed_run d segments pieces).points)) (unmeshed_run d segments pieces).front
front_named d segments pieces = front_within (domain_points d segments pieces) 1 (piece_boundary d segments pieces) (ends_listed d segments pieces)

wider : (m n k : ℕ) → m ≤ n → IsNumberTo m k → IsNumberTo n k
wider m n k le h = let first = h.first in let last = h.last in record { first = omega arith; last = omega arith }

rows_within : (ps : List Point) (n : ℕ) (segments : List Segment) (pieces : List Piece) → length ps ≤ n → AreAmong (ends_of (map piece_edge pieces)) ps
    → All (RowJoins n) (map (edge_row ps segments) pieces)
rows_within ps n segments [] le h = All-nil (RowJoins n)
rows_within ps n segments (p ∷ pieces) le h =
    let es = map piece_edge pieces in
    All-cons (RowJoins n) (edge_row ps segments p) (map (edge_row ps segments) pieces)
    (record {
      start = wider (length ps) n (number_in ps p.a) le (number_within ps p.a (h.kept p.a (start_among (piece_edge p) es)));
      finish = wider (length ps) n (number_in ps p.b) le (number_within ps p.b (h.kept p.b (end_among (piece_edge p) es)));
    })
    (rows_within ps n segments pieces le (ends_after (piece_edge p) es ps h))

-- the ends of pieces are mesh points
pub pieces_listed : (pieces : List Piece) → AreAmong (ends_of (map piece_edge pieces)) (mesh_points pieces)
pieces_listed pieces = record { kept = λ x h. ap (λ (f : Point → Bool). f x) (among_first (ends_of (map piece_edge pieces))) ∙ h }

-- the edge rows of a run's mesh name points of the mesh
pub rows_named : (w : WholeRun) (segments : List Segment) → All (RowJoins (length (mesh_of_run w segments).points)) (mesh_of_run w segments).edges
rows_named w segments =
    let more = length-append (mesh_points w.pieces) (flat_map new_points w.domains) in
    rows_within (mesh_points w.pieces) (length (mesh_of_run w segments).points) segments w.pieces (omega arith) (pieces_listed w.pieces)

all_listed : (P : Point → Type 0) (done ps : List Point) → All P done → All P ps → All P (fold with_point done ps)
all_listed P done [] d h = d
all_listed P done (p ∷ ps) d h =
    all_listed P (with_point done p) ps (by (is_among done p)) (All-tail P p ps h)
  where
    by : (b : Bool) → All P (if b then done else done ++ p ∷ [])
    by true = d
    by false = All-append P done (p ∷ []) d (All-cons P p [] (All-head P p ps h) (All-nil P))

ends_on_grid : (pieces : List Piece) → All IsPieceOnGrid pieces → All IsOnGrid (ends_of (map piece_edge pieces))
ends_on_grid [] h = All-nil IsOnGrid
ends_on_grid (p ∷ pieces) h =
    let here = All-head IsPieceOnGrid p pieces h in let es = ends_of (map piece_edge pieces) in
    All-cons IsOnGrid p.a (p.b ∷ es) here.a (All-cons IsOnGrid p.b es here.b (ends_on_grid pieces (All-tail IsPieceOnGrid p pieces h)))

-- mesh points are on the grid where the pieces' ends are
pub mesh_on_grid : (pieces : List Piece) → All IsPieceOnGrid pieces → All IsOnGrid (mesh_points pieces)
mesh_on_grid pieces h = all_listed IsOnGrid [] (ends_of (map piece_edge pieces)) (All-nil IsOnGrid) (ends_on_grid pieces h)

or_left : (a b : Bool) → (a || b) ≡ false → a ≡ false
or_left true b h = h
or_left false b h = refl

or_right : (a b : Bool) → (a || b) ≡ false → b ≡ false
or_right true b h = cc
or_right false b h = h

fresh_apart : (p : Point) (done ps : List Point) → is_among done p ≡ true → IsFresh done ps → AllByRecursion (λ y. same_point p y ≡ false) ps
fresh_apart p done [] member h = tt
fresh_apart p done (y ∷ ys) member h =
    (by (same_point p y) refl, fresh_apart p (done ++ y ∷ []) ys (among_end done y p ∙ ap (λ (b : Bool). b || same_point p y) member) h.1)
  where
    by : (b : Bool) → same_point p y ≡ b → same_point p y ≡ false
    by true e = let met : is_among done y ≡ true = ap (is_among done) (sym (same_place p y e)) ∙ member in let not_met = h.0 in cc
    by false e = e

fresh_distinct : (done ps : List Point) → IsFresh done ps → IsDistinct same_point ps
unfolding IsDistinct
fresh_distinct done [] h = tt
fresh_distinct done (p ∷ ps) h =
    (fresh_apart p (done ++ p ∷ []) ps (among_end done p p ∙ ap (λ (b : Bool). is_among done p || b) (same_itself p) ∙ last (is_among done p)) h.1, fresh_distinct (done ++ p ∷ []) ps h.1)
  where
    last : (b : Bool) → (b || true) ≡ true
    last true = refl
    last false = refl

-- points by first occurrence are different points
pub first_distinct : (ps : List Point) → IsDistinct same_point (by_first_occurrence ps)
first_distinct ps = let all = adds [] ps in subst (IsDistinct same_point) (sym all.listed) (fresh_distinct [] all.added all.fresh)
