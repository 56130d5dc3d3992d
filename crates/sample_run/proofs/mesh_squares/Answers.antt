use Rattle.std.proofs.Common.{◌∙◌}
use Rattle.sample_run.proofs.Sampling.{pieces_named, run_as, unstopped}
use Rattle.sample_run.proofs.mesh_squares.Goals as goal

pub mesh_of-requires-clause-pieces : goal.mesh_of-requires-clause-pieces
mesh_of-requires-clause-pieces g c =
    rw c.segments.ensures.value (pieces_named c.in_ok-squares.squares c.in_ok-rules.rules c.options_of-options.result c.in_ok-run.run' c.segments.ensures.accepted c.in_ok-run.ensures.run)

pub returns-clause-ending : goal.returns-clause-ending
returns-clause-ending g c =
    unstopped c.in_ok-squares.squares c.args.parts c.in_ok-run.run'
    (run_as c.in_ok-squares.squares c.in_ok-rules.rules c.options_of-options.result c.args.parts c.in_ok-run.run' (c.in_ok-rules.ensures ∙ c.in_ok-twelve.ensures.value) c.options_of-options.ensures.value c.in_ok-run.ensures.run)
