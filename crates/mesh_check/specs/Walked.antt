-- Edge rows that walk the segments of a geometry, segment by segment, each from its first place to its last.
--
-- IsStep       an edge row goes on from a place, strictly forward along a segment, with its labels
-- DoesLead     edge rows lead from one place of a segment to another
-- DoWalk       edge rows walk the segments of a list, one after another, from end to end
-- StandsAt     where a walk stands: so many segments are walked, and the next one up to a place
-- IsRowFault   the first edge row by which the walk doesn't go on, or one past the last where it isn't at its end
use Rattle.std.specs.Prelude.{◌≡◌, ◌≢◌, ◌⊎◌, ℕ, ◌+◌, ◌<◌, ◌≤◌, List, [], ◌∷◌, ◌++◌, length, take, drop, slice_index_or, None}
use Rattle.grid_geom.specs.declared.Point.{Point}
use Rattle.grid_geom.specs.declared.Edge.{Edge}
use Rattle.grid_geom.specs.Sides.{IsOnOpen}
use Rattle.geom_check.specs.declared.kinds.Segment.{Segment}
use Rattle.geom_check.specs.Boundary.{edge_of}
use Rattle.geom_check.specs.Geometry.{PlanarMap}
use Rattle.vol_format.specs.declared.EdgeRow.{EdgeRow}
use Rattle.vol_format.specs.declared.Mesh.{Mesh}
use Rattle.mesh_check.specs.Parts.{row_edge}

-- the places of a geometry's points, and of a mesh's
pub record Places : Type 0 where
  pub of_geometry : List Point
  pub of_mesh : List Point

-- the edge goes on from a place, strictly forward along a segment: it ends between that place and the segment's last one,
-- or there, and not where it began
pub record DoesMove (at last : Point) (e : Edge) : Type 0 where
  pub begins : e.a ≡ at
  pub moves : e.b ≢ at
  pub along : (e.b ≡ last) ⊎ IsOnOpen e.b at last

-- the edge row says of its sides, its boundary number and its segment's number what the segment with the number n says
pub record IsLabelled (n : ℕ) (s : Segment) (row : EdgeRow) : Type 0 where
  pub left : row.left ≡ s.left
  pub right : row.right ≡ s.right
  pub bc : row.bc ≡ s.bc
  pub segment : row.segment ≡ n

-- the edge row is a piece of segment n from a place on
pub record IsStep (ps : Places) (n : ℕ) (s : Segment) (at : Point) (row : EdgeRow) : Type 0 where
  pub moves : DoesMove at (edge_of ps.of_geometry s).b (row_edge ps.of_mesh row)
  pub labelled : IsLabelled n s row

-- the edge rows lead along segment n from one place to another, each a step on from where the one before ended
abbrev pub DoesLead : Places → ℕ → Segment → Point → List EdgeRow → Point → Type 0
DoesLead ps n s from [] to = from ≡ to
DoesLead ps n s from (row ∷ rows) to =
    IsStep ps n s from row × DoesLead ps n s (row_edge ps.of_mesh row).b rows to

-- the edge rows walk one segment from its first place to its last, and the others of the list after it
pub record WalksFirst (ps : Places) (n : ℕ) (s : Segment) (Rest : List EdgeRow → Type 0) (rows : List EdgeRow) : Type 0 where
  pub own : List EdgeRow
  pub rest : List EdgeRow
  pub parts : rows ≡ own ++ rest
  pub leads : DoesLead ps n s (edge_of ps.of_geometry s).a own (edge_of ps.of_geometry s).b
  pub others : Rest rest

-- the edge rows walk the segments of the list, of which the first has the number n, one after another
abbrev pub DoWalk : Places → ℕ → List Segment → List EdgeRow → Type 0
DoWalk ps n [] rows = rows ≡ []
DoWalk ps n (s ∷ ss) rows = WalksFirst ps n s (DoWalk ps (n + 1) ss) rows

-- the segment with so many before it
abbrev pub segment_after : ℕ → List Segment → Segment
segment_after done segments = slice_index_or segments done
    (record { left = 0; right = 0; p = 0; q = 0; bc = 0; maxh = None })

-- the edge rows walk the first `done` segments, and lead along the next one from its first place to `at`, which is not
-- its last
pub record StandsAt (ps : Places) (segments : List Segment) (done : ℕ) (at : Point) (rows : List EdgeRow) : Type 0 where
  pub in_list : done < length segments
  pub walked : List EdgeRow
  pub begun : List EdgeRow
  pub parts : rows ≡ walked ++ begun
  pub walks : DoWalk ps 1 (take done segments) walked
  pub leads : DoesLead ps (done + 1) (segment_after done segments)
      (edge_of ps.of_geometry (segment_after done segments)).a begun at
  pub not_last : at ≢ (edge_of ps.of_geometry (segment_after done segments)).b

-- there is no edge row with so many before it, or it is no step on
abbrev pub HasNoStep : Places → List Segment → ℕ → Point → List EdgeRow → Type 0
HasNoStep ps segments done at [] = Unit {0}
HasNoStep ps segments done at (row ∷ rows) =
    ¬ IsStep ps (done + 1) (segment_after done segments) at row

-- the walk stands at a place of a segment and doesn't go on
pub record IsStuckAfter (ps : Places) (segments : List Segment) (rows : List EdgeRow) (count : ℕ) : Type 0 where
  pub done : ℕ
  pub at : Point
  pub stands : StandsAt ps segments done at (take count rows)
  pub no_step : HasNoStep ps segments done at (drop count rows)

-- the segments are walked to the end, and there are more edge rows
pub record IsPastEndAfter (ps : Places) (segments : List Segment) (rows : List EdgeRow) (count : ℕ) : Type 0 where
  pub walks : DoWalk ps 1 segments (take count rows)
  pub more : count < length rows

-- the places of a geometry and a mesh
abbrev pub places_of : PlanarMap → Mesh → Places
places_of g m = record { of_geometry = g.points; of_mesh = m.points }

-- `row` is the number of the first edge row by which the walk doesn't go on: the rows before it walk so far, and it is
-- no step on, or missing, or one too many
pub record IsRowFault (g : PlanarMap) (m : Mesh) (row : ℕ) : Type 0 where
  pub count : ℕ
  pub number : row ≡ count + 1
  pub in_list : count ≤ length m.edges
  pub fault : IsStuckAfter (places_of g m) g.segments m.edges count
      ⊎ IsPastEndAfter (places_of g m) g.segments m.edges count
