use Rattle.grid_geom.proofs.Areas.{shoelace-append, triangle_area}
use Rattle.wind_law.proofs.SameChain.{area_back, area_cut}
use Rattle.wind_law.proofs.ConvexArea.{convex_area}
use Rattle.wind_law.proofs.laws.law_area.Goals as goal

pub returns : goal.returns
returns c = record { sums = shoelace-append; backwards = area_back; cut = area_cut; triangle = triangle_area; convex = convex_area }
