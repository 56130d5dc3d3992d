use Rattle.std.proofs.Common.{length, All, sym, ◌∙◌, subst, pos, slice_index_or}
use Rattle.size_field.specs.declared.pieces.Piece.{Piece}
use Rattle.size_field.proofs.Sides.{greatest_length}
use Rattle.size_field.specs.Parts.{IsPiece}
use Rattle.size_field.proofs.AllPieces.{all_pieces}
use Rattle.size_field.proofs.fields.sizes_of.Goals as goal
use Rattle.size_field.proofs.fields.sizes_of.Goals.{After-segments}

pub sizes_of_points-requires : goal.sizes_of_points-requires
sizes_of_points-requires c =
    let size = rw c.domains.ensures.value at c.greatest_in-most.ensures.size in
    record { length = rw size (greatest_length c.args.g.now c.args.greatest c.args.domain c.domains.ensures.accepted c.requires.limits.length); slow = c.requires.limits.slow }

no_piece : Piece
no_piece = record { segment = 0; a = record { x = pos 0; y = pos 0 }; b = record { x = pos 0; y = pos 0 } }

-- the piece at hand
piece : (c : After-segments) → IsPiece (length c.args.g.now.segments) (slice_index_or c.as_slice-piece-items.result.now c.loop-piece.piece-index no_piece)
piece c =
    subst (All (IsPiece (length c.args.g.now.segments))) (sym (c.as_slice-piece-items.ensures ∙ c.requires.pieces)) (all_pieces c.args.g.now c.args.greatest c.args.grading c.domains.ensures.accepted)
    c.loop-piece.piece-index no_piece c.loop-piece-test.true

pub add_piece-requires-clause-of_segment : goal.add_piece-requires-clause-of_segment
unfolding no_piece
add_piece-requires-clause-of_segment c = rw c.segments.ensures.value (piece c).of_segment

pub add_piece-requires-clause-part : goal.add_piece-requires-clause-part
unfolding no_piece
add_piece-requires-clause-part c = (piece c).part
