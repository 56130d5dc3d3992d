-- What is true of the run of an accepted geometry: the laws of runs, for every domain.
use Rattle.std.proofs.Common.{◌≡◌, List, sym, subst}
use Rattle.std.specs.Prelude.{All}
use Rattle.rule_reader.specs.declared.rule.Rule.{Rule}
use Rattle.rule_reader.specs.Normal.{CanPrint}
use Rattle.geom_check.specs.Geometry.{PlanarMap, IsGeometry}
use Rattle.size_field.specs.Cutting.{pieces_of}
use Rattle.size_field.proofs.AllPieces.{all_pieces}
use Rattle.mesh_run.specs.declared.Options.{Options}
use Rattle.mesh_run.specs.declared.WholeRun.{WholeRun}
use Rattle.mesh_run.specs.Boundary.{IsPieceOf}
use Rattle.mesh_run.specs.Runs.{IsWholeRun}
use Rattle.mesh_run.proofs.Written.{all_covered}
use Rattle.mesh_run.proofs.Ended.{whole_done, whole_stuck, nothing_left}
use Rattle.netmesh_cli.specs.Run.{MeshInput, options_of, IsRunOf, IsExactRun}

-- the run of the rules and options that the code holds is that of the input
pub run_of_input : (input : MeshInput) (rules : List Rule) (options : Options) (run : WholeRun) → rules ≡ input.rules → options ≡ options_of input → IsWholeRun input.geometry rules options run → IsRunOf input run
run_of_input input rules options run same_rules same_options is =
    subst (λ (rs : List Rule). IsWholeRun input.geometry rs (options_of input) run) same_rules
    (subst (λ (o : Options). IsWholeRun input.geometry rules o run) same_options is)

pub exact_run : (input : MeshInput) (run : WholeRun) → IsGeometry input.geometry → CanPrint input.rules → IsRunOf input run → IsExactRun input run
exact_run input run is can of_run = record {
  covered = all_covered input.geometry input.rules (options_of input) run is can of_run;
  wound = is.planar.winding;
  separate = is.planar.separate;
  done = whole_done input.geometry input.rules (options_of input) run of_run;
  stuck = whole_stuck input.geometry input.rules (options_of input) run of_run;
  nothing = nothing_left input.geometry input.rules (options_of input) run of_run;
}

-- each piece is one of a segment
pub pieces_named : (g : PlanarMap) (o : Options) → IsGeometry g → All (IsPieceOf g.segments) (pieces_of g o.greatest o.grading)
pieces_named g o is = λ k d within. (all_pieces g o.greatest o.grading is k d within).of_segment

pub run_pieces_named : (input : MeshInput) (run : WholeRun) → IsGeometry input.geometry → IsRunOf input run → All (IsPieceOf input.geometry.segments) run.pieces
run_pieces_named input run is of_run = subst (All (IsPieceOf input.geometry.segments)) (sym of_run.pieces) (pieces_named input.geometry (options_of input) is)
