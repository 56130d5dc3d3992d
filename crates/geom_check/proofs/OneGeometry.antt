-- A file has one geometry.
use Rattle.std.proofs.Common.{◌≡◌, List, sym, ap, ◌∙◌}
use mathlib.Core.Path.{Path}
use lib.IntN.{ℤ}
use Rattle.grid_geom.specs.declared.Point.{Point}
use Rattle.in2d_reader.specs.declared.geometry.RawGeometry.{RawGeometry}
use Rattle.geom_check.specs.declared.kinds.Segment.{Segment}
use Rattle.geom_check.specs.declared.kinds.Source.{Source}
use Rattle.geom_check.specs.declared.kinds.Domain.{Domain}
use Rattle.geom_check.specs.Placed.{points_of, segments_of}
use Rattle.geom_check.specs.Geometry.{PlanarMap, IsGeometryOf, sources_of, domains_of}
use Rattle.geom_check.proofs.SomeShift.{one_shift}

same_map : (d e : ℤ) (ps qs : List Point) (ss ts : List Segment) (fs gs : List Source) (ns ms : List Domain) → d ≡ e → ps ≡ qs → ss ≡ ts → fs ≡ gs → ns ≡ ms →
    Path PlanarMap (record { shift = d; points = ps; segments = ss; flagged = fs; domains = ns }) (record { shift = e; points = qs; segments = ts; flagged = gs; domains = ms })
same_map d e ps qs ss ts fs gs ns ms a b c f g = cc

pub one_geometry : (raw : RawGeometry) (g h : PlanarMap) → IsGeometryOf raw g → IsGeometryOf raw h → g ≡ h
one_geometry raw g h one other =
    let shift : g.shift ≡ h.shift = one_shift g.shift h.shift raw.points one.shift other.shift in
    let segments : g.segments ≡ h.segments = one.segments ∙ ap (λ (d : ℤ). segments_of d raw) shift ∙ sym other.segments in
    same_map g.shift h.shift g.points h.points g.segments h.segments g.flagged h.flagged g.domains h.domains shift (one.points ∙ ap (λ (d : ℤ). points_of d raw.points) shift ∙ sym other.points) segments
    (one.flagged ∙ ap (λ (d : ℤ). sources_of d raw.points) shift ∙ sym other.flagged)
    (one.domains ∙ ap (λ (d : ℤ). domains_of d g.segments raw.materials) shift ∙ ap (λ (ss : List Segment). domains_of h.shift ss raw.materials) segments ∙ sym other.domains)
