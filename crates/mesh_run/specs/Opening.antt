-- The points and lines with which a domain's run begins, and the run in which no rule applies.
use Rattle.std.specs.Prelude.{ℕ, ◌+◌, List, [], ◌∷◌, length, map, filter}
use Rattle.grid_geom.specs.declared.Point.{Point}
use Rattle.grid_geom.specs.declared.Edge.{Edge}
use Rattle.geom_check.specs.declared.kinds.Segment.{Segment}
use Rattle.size_field.specs.declared.pieces.Piece.{Piece}
use Rattle.mesh_run.specs.declared.End.{End}
use Rattle.mesh_run.specs.declared.End.TheVariants.{Done, Stuck}
use Rattle.mesh_run.specs.declared.domain_run.DomainRun.{DomainRun}
use Rattle.mesh_run.specs.Boundary.{IsNumberTo, piece_edge, piece_boundary}
use Rattle.geom_check.specs.Boundary.{point_at}
use Rattle.mesh_run.specs.Numbering.{by_first_occurrence, ends_of, is_among, number_in}

-- the ends of the pieces, start before end, piece by piece, each once
abbrev pub mesh_points : List Piece → List Point
mesh_points pieces = by_first_occurrence (ends_of (map piece_edge pieces))

-- those mesh points that are ends of the domain's boundary, by rising mesh number
abbrev pub domain_points : ℕ → List Segment → List Piece → List Point
domain_points d segments pieces =
    filter (is_among (ends_of (piece_boundary d segments pieces))) (mesh_points pieces)

-- edges between points, by the numbers of their ends
abbrev pub numbered : List Point → List Edge → List (ℕ × ℕ)
numbered points edges = map (λ e. (number_in points e.a, number_in points e.b)) edges

-- the domain's pieces in their order, with the domain on the left, by the numbers of their ends among the domain's points
abbrev pub opening_lines : ℕ → List Segment → List Piece → List (ℕ × ℕ)
opening_lines d segments pieces =
    numbered (domain_points d segments pieces) (piece_boundary d segments pieces)

-- front lines with the numbers n, n + 1, ..
abbrev pub front_from : ℕ → List (ℕ × ℕ) → List (ℕ × ℕ × ℕ)
front_from n [] = []
front_from n (line ∷ lines) = (n, line.0, line.1) ∷ front_from (n + 1) lines

-- how a run ends that can apply nothing
abbrev pub end_of_front : List (ℕ × ℕ × ℕ) → End
end_of_front [] = Done
end_of_front (line ∷ lines) = Stuck

-- the run of a domain to which no rule applies: its opening state
abbrev pub unmeshed_run : ℕ → List Segment → List Piece → DomainRun
unmeshed_run d segments pieces = record {
  domain = d;
  points = domain_points d segments pieces;
  opened = length (domain_points d segments pieces);
  lines = opening_lines d segments pieces;
  applications = [];
  front = front_from 1 (opening_lines d segments pieces);
  end = end_of_front (front_from 1 (opening_lines d segments pieces));
}

-- the front lines of a run, as edges between its points
abbrev pub front_edges : DomainRun → List Edge
front_edges r = map (λ line. record {
  a = point_at r.points line.1;
  b = point_at r.points line.2;
}) r.front

-- the front line joins points with numbers from 1 to n
pub record FrontJoins (n : ℕ) (line : ℕ × ℕ × ℕ) : Type 0 where
  pub from : IsNumberTo n line.1
  pub to : IsNumberTo n line.2
