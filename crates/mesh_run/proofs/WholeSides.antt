-- In the mesh of a run that is done the sides of a domain's elements and the edge rows round it agree: the rows are the boundary in pieces, and the chain that a run keeps has no front left. A domain that no segment names has neither.
use Rattle.std.proofs.Common.{◌≡◌, ℕ, ◌-◌, ◌<◌, ◌==◌, ◌||◌, ◌&&◌, None, Bool, true, false, not, List, [], ◌∷◌, ◌++◌, map, length, refl, sym, ap, ◌∙◌, arith, true≢false, ℤ, pos, ◌+ℤ◌}
use Rattle.std.specs.Prelude.{nat_eq}
use Rattle.std.specs.List.{AllByRecursion, list_any}
use Rattle.std.proofs.lemmas.Bool.Decides.{Decides-eqb}
use Rattle.std.proofs.lemmas.Int.{ints}
use Rattle.grid_geom.specs.declared.Point.{Point}
use Rattle.grid_geom.specs.declared.Edge.{Edge}
use Rattle.geom_check.specs.declared.kinds.Segment.{Segment}
use Rattle.geom_check.specs.Boundary.{back, with_edge}
use Rattle.geom_check.specs.Domains.{domain_numbers, sides_of}
use Rattle.geom_check.specs.Geometry.{PlanarMap, IsGeometry}
use Rattle.geom_check.proofs.DomainNumbers.{numbers_named}
use Rattle.size_field.specs.declared.pieces.Piece.{Piece}
use Rattle.size_field.specs.Boundary.{piece_boundary, piece_edge, segment_of}
use Rattle.size_field.specs.Parts.{IsPiece}
use Rattle.size_field.proofs.AllPieces.{pieces_are}
use Rattle.state_law.specs.Kept.{all_sides}
use Rattle.state_law.specs.Net.{net}
use Rattle.state_law.proofs.Lists.{all_map}
use Rattle.mesh_check.specs.Parts.{boundary_rows}
use Rattle.mesh_run.specs.declared.Options.{Options}
use Rattle.mesh_run.specs.Mesh.{edge_row}
use Rattle.mesh_run.specs.Opening.{mesh_points}
use Rattle.mesh_run.specs.Runs.{pieces_by}
use Rattle.mesh_run.proofs.WholePlaces.{at_item}
use Rattle.mesh_run.proofs.WholeRows.{AreEndsAmong, pieces_among, row_places}
use Rattle.mesh_run.proofs.Written.{apart_number}

-- ---- the edge rows round a domain are its boundary in pieces
turned_before : (left right : Bool) (e : Edge) (rest : List Edge) → with_edge left e (with_edge right (back e) rest) ≡ with_edge left e (with_edge right (back e) []) ++ rest
turned_before true true e rest = refl
turned_before true false e rest = refl
turned_before false true e rest = refl
turned_before false false e rest = refl

rows_round : (mesh more : List Point) (all : List Segment) (d : ℕ) (pieces : List Piece) → AllByRecursion (AreEndsAmong mesh) (map piece_edge pieces) → boundary_rows (mesh ++ more) d (map (edge_row mesh all) pieces) ≡ piece_boundary d all pieces
rows_round mesh more all d [] among = refl
rows_round mesh more all d (p ∷ pieces) among =
    let s = segment_of all p in
    (λ i. with_edge (s.left == d) (row_places mesh more all p among.0 i) (with_edge (s.right == d) (back (row_places mesh more all p among.0 i)) (rows_round mesh more all d pieces among.1 i)))
    ∙ turned_before (s.left == d) (s.right == d) (piece_edge p) (piece_boundary d all pieces)

pub rows_bound : (more : List Point) (all : List Segment) (d : ℕ) (pieces : List Piece) → boundary_rows (mesh_points pieces ++ more) d (map (edge_row (mesh_points pieces) all) pieces) ≡ piece_boundary d all pieces
rows_bound more all d pieces = rows_round (mesh_points pieces) more all d pieces (pieces_among pieces)

-- ---- a chain without a front
pub front_gone : (x : Edge) (boundary front : List Edge) (elements : List (List Point)) → net x boundary ≡ net x front +ℤ net x (all_sides elements) → front ≡ [] → net x (all_sides elements) ≡ net x boundary
front_gone x boundary front elements chain gone = sym (chain ∙ ap (λ (es : List Edge). net x es +ℤ net x (all_sides elements)) gone ∙ none (net x (all_sides elements)))
  where
    none : (z : ℤ) → (pos 0) +ℤ z ≡ z
    none z = omega (arith, ints)

-- ---- a domain that is no segment's has no boundary
record IsOff (d : ℕ) (s : Segment) : Type 0 where
  left : (s.left == d) ≡ false
  right : (s.right == d) ≡ false

none_round : (all : List Segment) (d : ℕ) (pieces : List Piece) → AllByRecursion (λ p. IsOff d (segment_of all p)) pieces → piece_boundary d all pieces ≡ []
none_round all d [] off = refl
none_round all d (p ∷ pieces) off =
    λ i. with_edge (off.0.left i) (piece_edge p) (with_edge (off.0.right i) (back (piece_edge p)) []) ++ none_round all d pieces off.1 i

turned_number : (m n : ℕ) → nat_eq m n ≡ false → (n == m) ≡ false
turned_number m n e = apart_number n m (λ same. true≢false (sym ((Decides-eqb m n).1 (sym same)) ∙ e))

all_off : (d : ℕ) (ss : List Segment) → list_any (nat_eq d) (sides_of ss) ≡ false → AllByRecursion (IsOff d) ss
all_off d [] h = tt
all_off d (s ∷ ss) h =
    let first = either_false (nat_eq d s.left) (nat_eq d s.right || list_any (nat_eq d) (sides_of ss)) h in
    let second = either_false (nat_eq d s.right) (list_any (nat_eq d) (sides_of ss)) first.1 in
    (record { left = turned_number d s.left first.0; right = turned_number d s.right second.0 }, all_off d ss second.1)
  where
    either_false : (a b : Bool) → (a || b) ≡ false → (a ≡ false) × (b ≡ false)
    either_false true b h = absurd (true≢false h)
    either_false false b h = (refl, h)

pub unnamed_has_none : (g : PlanarMap) (options : Options) (d : ℕ) → IsGeometry g → 0 < d → list_any (nat_eq d) (domain_numbers g.segments) ≡ false → piece_boundary d g.segments (pieces_by g options) ≡ []
unnamed_has_none g options d h above none =
    none_round g.segments d (pieces_by g options)
    (all_map (IsPiece (length g.segments)) (λ p. IsOff d (segment_of g.segments p))
    (λ p is. at_item (IsOff d) g.segments (p.segment - 1) (record { left = 0; right = 0; p = 0; q = 0; bc = 0; maxh = None }) (all_off d g.segments (rest (nat_eq d 0) positive (sym (numbers_named g.segments d) ∙ none))) (omega (arith, is.of_segment.first, is.of_segment.last)))
    (pieces_by g options) (pieces_are g options.greatest options.grading h))
  where
    positive : nat_eq d 0 ≡ false
    positive = apart_number d 0 (λ e. omega (arith, e, above))

    rest : (b : Bool) → b ≡ false → (not b && list_any (nat_eq d) (sides_of g.segments)) ≡ false → list_any (nat_eq d) (sides_of g.segments) ≡ false
    rest true e k = absurd (true≢false e)
    rest false e k = k
