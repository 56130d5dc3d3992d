use Rattle.std.proofs.Common.{ℕ, ◌+◌, List, length, ap, ◌∙◌}
use Rattle.size_field.proofs.AllPieces.{all_pieces}
use Rattle.front_chain.specs.Front.{numbered_from}
use Rattle.mesh_run.specs.Opening.{domain_points, opening_lines}
use Rattle.mesh_run.specs.RunState.{RunParts}
use Rattle.mesh_run.specs.Trials.{due}
use Rattle.mesh_run.proofs.OpenedRun.{AreSetUp, set_up, may_open, opened_is, opened_remembers}
use Rattle.mesh_run.proofs.TrialsMade.{all_due}
use Rattle.mesh_run.proofs.run.Run.open_on.Goals as goal

pub opening_of-requires-clause-pieces : goal.opening_of-requires-clause-pieces
opening_of-requires-clause-pieces c =
    let options = c.args.ground.now.options.now in
    rw (c.segments-segments.ensures.value, c.as_slice.ensures, c.requires.pieces)
    (λ k d within. (all_pieces c.args.ground.now.geometry.now options.greatest options.grading c.segments-segments.ensures.accepted k d within).of_segment)

pub open-requires : goal.open-requires
open-requires c =
    let points = c.as_slice-points.ensures ∙ c.in_ok-opening.ensures.points in let lines = c.as_slice-2.ensures ∙ c.in_ok-opening.ensures.lines in
    rw (points, lines, c.segments-segments.ensures.value, c.as_slice.ensures, c.requires.pieces) (may_open c.args.ground.now.geometry.now c.args.ground.now.options.now c.args.domain c.segments-segments.ensures.accepted c.requires.domain)

pub invariant_of-result : goal.invariant_of-result
invariant_of-result c =
    let parts : RunParts = record {
      domain = c.args.domain;
      options = c.args.ground.now.options.now;
      sizes = c.in_ok-sizes.sizes;
      rules = c.args.ground.now.rules.now;
      opened = length c.as_slice-points.result.now;
      lines = c.in_ok-opening.opening.lines;
      front = c.in_ok-front.front;
      applications = c.new.result.items;
    } in
    let made : AreSetUp c.args.ground.now.geometry.now parts c.segments-segments.result.now c.args.ground.now.pieces.now c.in_ok-opening.opening.points = record {
      of_segments = c.segments-segments.ensures.value;
      of_pieces = c.requires.pieces;
      of_points = c.in_ok-opening.ensures.points ∙ ap (domain_points c.args.domain c.segments-segments.result.now) c.as_slice.ensures;
      opened = ap length c.as_slice-points.ensures;
      lines = c.in_ok-opening.ensures.lines ∙ ap (opening_lines c.args.domain c.segments-segments.result.now) c.as_slice.ensures;
      front_points = c.in_ok-front.ensures.points ∙ c.as_slice-points.ensures;
      front_lines = c.in_ok-front.ensures.lines ∙ ap (numbered_from 1) c.as_slice-2.ensures;
      front_next = c.in_ok-front.ensures.next ∙ ap (λ (lines : List (ℕ × ℕ)). 1 + length lines) c.as_slice-2.ensures;
      sizes = c.in_ok-sizes.ensures;
      applications = c.new.ensures.items;
    } in
    opened_remembers c.args.ground.now.geometry.now parts c.args.ground.now.reaches.now c.in_ok-refusals.refusals (set_up c.args.ground.now.geometry.now parts c.segments-segments.result.now c.args.ground.now.pieces.now c.in_ok-opening.opening.points made) c.requires.options c.requires.reaches c.in_ok-refusals.ensures

pub returns-clause-run : goal.returns-clause-run
returns-clause-run c =
    let parts : RunParts = record {
      domain = c.args.domain;
      options = c.args.ground.now.options.now;
      sizes = c.in_ok-sizes.sizes;
      rules = c.args.ground.now.rules.now;
      opened = length c.as_slice-points.result.now;
      lines = c.in_ok-opening.opening.lines;
      front = c.in_ok-front.front;
      applications = c.new.result.items;
    } in
    let made : AreSetUp c.args.ground.now.geometry.now parts c.segments-segments.result.now c.args.ground.now.pieces.now c.in_ok-opening.opening.points = record {
      of_segments = c.segments-segments.ensures.value;
      of_pieces = c.requires.pieces;
      of_points = c.in_ok-opening.ensures.points ∙ ap (domain_points c.args.domain c.segments-segments.result.now) c.as_slice.ensures;
      opened = ap length c.as_slice-points.ensures;
      lines = c.in_ok-opening.ensures.lines ∙ ap (opening_lines c.args.domain c.segments-segments.result.now) c.as_slice.ensures;
      front_points = c.in_ok-front.ensures.points ∙ c.as_slice-points.ensures;
      front_lines = c.in_ok-front.ensures.lines ∙ ap (numbered_from 1) c.as_slice-2.ensures;
      front_next = c.in_ok-front.ensures.next ∙ ap (λ (lines : List (ℕ × ℕ)). 1 + length lines) c.as_slice-2.ensures;
      sizes = c.in_ok-sizes.ensures;
      applications = c.new.ensures.items;
    } in
    opened_is c.args.ground.now.geometry.now parts (set_up c.args.ground.now.geometry.now parts c.segments-segments.result.now c.args.ground.now.pieces.now c.in_ok-opening.opening.points made)

pub returns-clause-due : goal.returns-clause-due
returns-clause-due c =
    ap (due c.args.ground.now.options.now.last c.in_ok-refusals.refusals.least.items) (c.in_ok-front.ensures.lines ∙ ap (numbered_from 1) c.as_slice-2.ensures)
    ∙ all_due c.args.ground.now.options.now.last 1 c.in_ok-refusals.refusals.least.items c.in_ok-opening.opening.lines c.in_ok-refusals.ensures.nothing
