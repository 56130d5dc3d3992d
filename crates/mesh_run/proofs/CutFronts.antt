-- Fronts of openings whose segments are cut: they wind as the boundaries in segments do, and their lines don't tangle.
use Rattle.std.proofs.Common.{◌≡◌, ℕ, ◌<◌, List, sym, ap, ◌∙◌, subst}
use Rattle.grid_geom.specs.declared.RatPoint.{RatPoint}
use Rattle.grid_geom.specs.declared.Edge.{Edge}
use Rattle.grid_geom.specs.Plane.{IsRational}
use Rattle.grid_geom.specs.Winding.{wind}
use Rattle.geom_check.specs.Boundary.{boundary}
use Rattle.geom_check.specs.Geometry.{PlanarMap, IsGeometry}
use Rattle.size_field.specs.Cutting.{pieces_of}
use Rattle.size_field.specs.Boundary.{piece_boundary}
use Rattle.size_field.specs.Parts.{AreUntangled, AreOneOrApart}
use Rattle.size_field.proofs.Bounds.{pieces_wind, boundary_untangled, boundaries_apart}
use Rattle.size_field.proofs.Regions.{boundary_region}
use Rattle.state_law.specs.Region.{IsRegion}
use Rattle.mesh_run.specs.Opening.{unmeshed_run, front_edges}
use Rattle.mesh_run.proofs.Bounded.{front_is_boundary}

front_is : (g : PlanarMap) (greatest grading d : ℕ) → front_edges (unmeshed_run d g.segments (pieces_of g greatest grading)) ≡ piece_boundary d g.segments (pieces_of g greatest grading)
front_is g greatest grading d = front_is_boundary d g.segments (pieces_of g greatest grading)

pub cut_winds : (g : PlanarMap) (greatest grading d : ℕ) (q : RatPoint) → IsGeometry g → IsRational q → wind q (front_edges (unmeshed_run d g.segments (pieces_of g greatest grading))) ≡ wind q (boundary g.points d g.segments)
cut_winds g greatest grading d q h kq = ap (wind q) (front_is g greatest grading d) ∙ pieces_wind g greatest grading d q h kq

pub cut_untangled : (g : PlanarMap) (greatest grading d : ℕ) → IsGeometry g → AreUntangled (front_edges (unmeshed_run d g.segments (pieces_of g greatest grading)))
cut_untangled g greatest grading d h = subst AreUntangled (sym (front_is g greatest grading d)) (boundary_untangled g greatest grading d h)

pub cut_apart : (g : PlanarMap) (greatest grading c d : ℕ) → IsGeometry g → AreOneOrApart (front_edges (unmeshed_run c g.segments (pieces_of g greatest grading))) (front_edges (unmeshed_run d g.segments (pieces_of g greatest grading)))
cut_apart g greatest grading c d h =
    subst (λ (es : List Edge). AreOneOrApart es (front_edges (unmeshed_run d g.segments (pieces_of g greatest grading)))) (sym (front_is g greatest grading c))
    (subst (λ (es : List Edge). AreOneOrApart (piece_boundary c g.segments (pieces_of g greatest grading)) es) (sym (front_is g greatest grading d)) (boundaries_apart g greatest grading c d h))

pub cut_region : (g : PlanarMap) (greatest grading d : ℕ) → IsGeometry g → 0 < d → IsRegion (front_edges (unmeshed_run d g.segments (pieces_of g greatest grading)))
cut_region g greatest grading d h above = subst IsRegion (sym (front_is g greatest grading d)) (boundary_region g greatest grading d h above)
