use Rattle.std.proofs.Common.{◌≡◌, ◌+◌, ◌++◌, List, map, OnOk, subst, None}
use Rattle.geom_check.specs.declared.kinds.Segment.{Segment}
use Rattle.grid_geom.specs.declared.Edge.{Edge}
use Rattle.size_field.specs.Cutting.{piece_of, segment_at}
use Rattle.size_field.proofs.Sides.{same_parts}
use Rattle.size_field.proofs.cutting.push_segment.Goals as goal

pub returns : goal.returns
returns c =
    let segment : Segment = segment_at c.args.g.now c.args.index in
    let two = c.segments.ensures.accepted.planar.sides c.args.index (record { left = 0; right = 0; p = 0; q = 0; bc = 0; maxh = None }) c.requires.index in
    let most = rw (c.domains.ensures.value, c.segments.ensures.value) at c.most_of.ensures.size in
    let edge = rw (c.points.ensures.value, c.segments.ensures.value) at c.edge_of-edge.ensures.edge in
    subst (λ (es : List Edge). OnOk c.push_parts.result (c.push_parts.new.pieces.items ≡ c.args.pieces.now.items ++ map (piece_of (c.args.index + 1)) es))
    (same_parts c.args.g.now c.args.greatest segment c.args.sizes.now c.most_of.result c.edge_of-edge.result (c.requires.greatest, two) c.requires.sources most edge)
    c.push_parts.ensures
