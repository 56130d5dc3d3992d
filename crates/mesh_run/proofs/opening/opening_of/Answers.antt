use Rattle.std.proofs.Common.{◌∙◌, ap, sym, List}
use Rattle.grid_geom.specs.declared.Edge.{Edge}
use Rattle.mesh_run.specs.Numbering.{by_first_occurrence, ends_of}
use Rattle.mesh_run.specs.Opening.{numbered}
use Rattle.mesh_run.proofs.Opened.{points_are, lines_are}
use Rattle.mesh_run.proofs.opening.opening_of.Goals as goal

pub returns-clause-points : goal.returns-clause-points
returns-clause-points c =
    points_are c.args.domain c.args.segments.now c.args.pieces.now c.args.mesh.now c.in_ok-ends.ends c.from_vec.result c.in_ok-boundary.boundary.items
    c.requires.mesh c.in_ok-boundary.ensures (c.in_ok-ends.ensures ∙ ap (λ (es : List Edge). by_first_occurrence (ends_of es)) c.deref.ensures.value) (c.from_vec.ensures ∙ c.in_ok-points.ensures)

pub returns-clause-lines : goal.returns-clause-lines
returns-clause-lines c =
    let points = points_are c.args.domain c.args.segments.now c.args.pieces.now c.args.mesh.now c.in_ok-ends.ends c.from_vec.result c.in_ok-boundary.boundary.items
    c.requires.mesh c.in_ok-boundary.ensures (c.in_ok-ends.ensures ∙ ap (λ (es : List Edge). by_first_occurrence (ends_of es)) c.deref.ensures.value) (c.from_vec.ensures ∙ c.in_ok-points.ensures) in
    lines_are c.args.domain c.args.segments.now c.args.pieces.now c.from_vec.result c.in_ok-numbering.numbering c.in_ok-boundary.boundary.items c.from_vec-2.result
    points c.in_ok-boundary.ensures (c.in_ok-numbering.ensures ∙ ap by_first_occurrence (c.deref-2.ensures.value ∙ sym c.from_vec.ensures))
    (c.from_vec-2.ensures ∙ c.in_ok-lines.ensures ∙ ap (numbered c.in_ok-numbering.numbering) c.deref-3.ensures.value)
