-- The run of the generated geometry: its pieces are those of segments, and what it comes to is one.
use Rattle.std.proofs.Common.{◌≡◌, ◌≢◌, ℕ, List, sym, ◌∙◌, ap, subst, refl}
use Rattle.std.specs.Prelude.{All}
use Rattle.rule_reader.specs.declared.rule.Rule.{Rule}
use Rattle.geom_check.specs.Geometry.{PlanarMap, IsGeometry}
use Rattle.geom_check.proofs.OneGeometry.{one_geometry}
use Rattle.size_field.proofs.AllPieces.{all_pieces}
use Rattle.mesh_run.specs.declared.Options.{Options}
use Rattle.mesh_run.specs.declared.WholeRun.{WholeRun}
use Rattle.mesh_run.specs.declared.End.{End}
use Rattle.mesh_run.specs.declared.End.TheVariants.{Stopped}
use Rattle.mesh_run.specs.Boundary.{IsPieceOf}
use Rattle.mesh_run.specs.Runs.{IsWholeRun}
use Rattle.mesh_run.specs.Mesh.{mesh_of_run}
use Rattle.mesh_run.proofs.OneRun.{one_run}
use Rattle.mesh_run.proofs.Ended.{never_stopped}
use Rattle.run_log.specs.Summary.{summary_line}
use Rattle.sample.specs.Squares.{squares}
use Rattle.sample.specs.Twelve.{twelve}
use Rattle.sample_run.specs.Sampled.{part_options, IsSampled}

pub pieces_named : (g : PlanarMap) (rules : List Rule) (options : Options) (run : WholeRun) → IsGeometry g → IsWholeRun g rules options run → All (IsPieceOf g.segments) run.pieces
pieces_named g rules options run is of_run = subst (All (IsPieceOf g.segments)) (sym of_run.pieces) (λ k d within. (all_pieces g options.greatest options.grading is k d within).of_segment)

-- the run by the rules and options that the code holds
pub run_as : (g : PlanarMap) (rules : List Rule) (options : Options) (parts : ℕ) (run : WholeRun) → rules ≡ twelve → options ≡ part_options g.shift parts → IsWholeRun g rules options run → IsWholeRun g twelve (part_options g.shift parts) run
run_as g rules options parts run e f is = subst (λ (o : Options). IsWholeRun g twelve o run) f (subst (λ (rs : List Rule). IsWholeRun g rs options run) e is)

pub unstopped : (g : PlanarMap) (parts : ℕ) (run : WholeRun) → IsWholeRun g twelve (part_options g.shift parts) run → run.end ≢ Stopped
unstopped g parts run is = never_stopped g twelve (part_options g.shift parts) run is refl

pub one_line : (n parts : ℕ) (line other : List ℕ) (end another : End) → IsSampled n parts line end → IsSampled n parts other another → (line ≡ other) × (end ≡ another)
one_line n parts line other end another a b =
    let same : a.geometry ≡ b.geometry = one_geometry (squares n) a.geometry b.geometry a.is_geometry b.is_geometry in
    let run : a.run ≡ b.run = one_run b.geometry twelve (part_options b.geometry.shift parts) a.run b.run (subst (λ (g : PlanarMap). IsWholeRun g twelve (part_options g.shift parts) a.run) same a.is_run) b.is_run in (
      a.summed ∙ ap (λ (g : PlanarMap). summary_line a.run (mesh_of_run a.run g.segments)) same ∙ ap (λ (w : WholeRun). summary_line w (mesh_of_run w b.geometry.segments)) run ∙ sym b.summed,
      a.ended ∙ ap (λ (w : WholeRun). w.end) run ∙ sym b.ended,
    )
