-- The opening of a domain, step by step.
use Rattle.std.proofs.Common.{◌≡◌, ℕ, List, map, filter, ap, ◌∙◌}
use Rattle.grid_geom.specs.declared.Point.{Point}
use Rattle.grid_geom.specs.declared.Edge.{Edge}
use Rattle.geom_check.specs.declared.kinds.Segment.{Segment}
use Rattle.size_field.specs.declared.pieces.Piece.{Piece}
use Rattle.mesh_run.specs.Boundary.{piece_boundary, piece_edge}
use Rattle.mesh_run.specs.Numbering.{by_first_occurrence, ends_of, is_among}
use Rattle.mesh_run.proofs.Listed.{among_first, first_again}
use Rattle.mesh_run.specs.Opening.{mesh_points, domain_points, numbered, opening_lines}

-- the numbering of the domain's points, by way of the ends of its boundary
pub points_are : (d : ℕ) (segments : List Segment) (pieces : List Piece) (mesh ends points : List Point) (boundary : List Edge)
    → mesh ≡ mesh_points pieces → boundary ≡ piece_boundary d segments pieces → ends ≡ by_first_occurrence (ends_of boundary) → points ≡ filter (is_among ends) mesh
    → points ≡ domain_points d segments pieces
points_are d segments pieces mesh ends points boundary mesh_is boundary_is ends_is points_is =
    let among : is_among ends ≡ is_among (ends_of (piece_boundary d segments pieces)) =
    ap is_among ends_is ∙ among_first (ends_of boundary) ∙ ap (λ (es : List Edge). is_among (ends_of es)) boundary_is in
    points_is ∙ (λ i. filter (among i) (mesh_is i))

-- numbered again, these points have the same numbers
pub lines_are : (d : ℕ) (segments : List Segment) (pieces : List Piece) (points numbering : List Point) (boundary : List Edge) (lines : List (ℕ × ℕ))
    → points ≡ domain_points d segments pieces → boundary ≡ piece_boundary d segments pieces → numbering ≡ by_first_occurrence points → lines ≡ numbered numbering boundary
    → lines ≡ opening_lines d segments pieces
lines_are d segments pieces points numbering boundary lines points_at boundary_is numbering_is lines_is =
    let numbering_at : numbering ≡ domain_points d segments pieces =
    numbering_is ∙ ap by_first_occurrence points_at ∙ first_again (ends_of (map piece_edge pieces)) (is_among (ends_of (piece_boundary d segments pieces))) in
    lines_is ∙ (λ i. numbered (numbering_at i) (boundary_is i))
