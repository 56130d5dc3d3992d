-- The run of the generated geometry by the twelve rules.
--
-- part_options  its options
-- IsSampled     what it comes to
use Rattle.std.specs.Prelude.{◌≡◌, ℕ, List, None, ℤ}
use Rattle.geom_check.specs.Geometry.{PlanarMap, IsGeometryOf}
use Rattle.mesh_run.specs.declared.Options.{Options}
use Rattle.mesh_run.specs.declared.WholeRun.{WholeRun}
use Rattle.mesh_run.specs.declared.End.{End}
use Rattle.mesh_run.specs.Runs.{IsWholeRun}
use Rattle.mesh_run.specs.Mesh.{mesh_of_run}
use Rattle.run_log.specs.Summary.{summary_line}
use Rattle.sample.specs.Squares.{squares, part_length}
use Rattle.sample.specs.Twelve.{twelve}

-- the greatest size is that of a part of a side; the grading is 0.3, the classes are 1 to 10, and there is no limit
-- on applications
abbrev pub part_options : ℤ → ℕ → Options
part_options shift parts = record {
  greatest = part_length shift parts;
  grading = 300;
  last = 10;
  limit = None;
}

-- the whole run of n times n squares, with so many parts to a side, has this summary line and ends so
pub record IsSampled (n parts : ℕ) (line : List ℕ) (end : End) : Type 0 where
  pub geometry : PlanarMap
  pub is_geometry : IsGeometryOf (squares n) geometry
  pub run : WholeRun
  pub is_run : IsWholeRun geometry twelve (part_options geometry.shift parts) run
  pub summed : line ≡ summary_line run (mesh_of_run run geometry.segments)
  pub ended : end ≡ run.end
