use Rattle.size_field.proofs.AllPieces.{all_pieces, pieces_untangled}
use Rattle.size_field.proofs.Bounds.{pieces_wind, boundary_untangled, boundaries_apart}
use Rattle.size_field.proofs.Regions.{boundary_region, boundaries_separate}
use Rattle.size_field.proofs.laws.law_boundary.Goals as goal

pub returns : goal.returns
returns c = record { winds = pieces_wind; one = boundary_untangled; two = boundaries_apart; pieces = pieces_untangled; of_segments = all_pieces; region = boundary_region; separate = boundaries_separate }
