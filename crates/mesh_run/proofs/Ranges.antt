-- What a run's parts name is there.
use Rattle.std.proofs.Common.{ℕ, ◌+◌, ◌≤◌, List, [], ◌∷◌, length, arith}
use Rattle.std.specs.List.{All}
use Rattle.std.proofs.lemmas.List.Elements.{All-nil, All-cons}
use Rattle.grid_geom.specs.declared.Point.{Point}
use Rattle.geom_check.specs.declared.kinds.Segment.{Segment}
use Rattle.geom_check.specs.Boundary.{point_at}
use Rattle.size_field.specs.declared.pieces.Piece.{Piece}
use Rattle.mesh_run.specs.Boundary.{IsPieceOf, whole_pieces, whole_pieces_from}
use Rattle.mesh_run.specs.Mesh.{NamesItsPoints}
use Rattle.mesh_run.specs.Opening.{unmeshed_run}

whole_within : (n : ℕ) (points : List Point) (all segments : List Segment) → 1 ≤ n → n + length segments ≤ length all + 1
    → All (IsPieceOf all) (whole_pieces_from n points segments)
whole_within n points all [] first last = All-nil (IsPieceOf all)
whole_within n points all (s ∷ ss) first last =
    All-cons (IsPieceOf all) (record { segment = n; a = point_at points s.p; b = point_at points s.q }) (whole_pieces_from (n + 1) points ss)
    (record { first = first; last = omega arith }) (whole_within (n + 1) points all ss (omega arith) (omega arith))

-- pieces that are whole segments name them
pub whole_pieces_of : (points : List Point) (segments : List Segment) → All (IsPieceOf segments) (whole_pieces points segments)
whole_pieces_of points segments = whole_within 1 points segments segments (omega arith) (omega arith)

-- what holds of everything holds of each item
pub all_of : {X : Type 0} (P : X → Type 0) → ((x : X) → P x) → (xs : List X) → All P xs
all_of P each [] = All-nil P
all_of P each (x ∷ xs) = All-cons P x xs (each x) (all_of P each xs)

-- a run without an application names its points
pub unmeshed_names : (segments : List Segment) (pieces : List Piece) (d : ℕ) → NamesItsPoints (unmeshed_run d segments pieces)
unmeshed_names segments pieces d = record { opened = omega arith; corners = All-nil _ }
