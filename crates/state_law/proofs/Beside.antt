-- Beside a point v off the edges of a list there is a point off the edges of a second list too, and a line parts both from each edge of the first. So the two have the same winding number in each closed part of the first list.
-- Of finitely many lines that leave v on their left, a point near v is off the lines of all edges (grid_geom's Near). Stands on Parted.
use mathlib.Core.Path.{◌≡◌}
use mathlib.Core.List.{List}
use Rattle.std.specs.List.{AllByRecursion}
use Rattle.grid_geom.specs.declared.RatPoint.{RatPoint}
use Rattle.grid_geom.specs.declared.Edge.{Edge}
use Rattle.grid_geom.specs.Plane.{IsRational}
use Rattle.grid_geom.specs.Winding.{wind}
use Rattle.grid_geom.specs.Closed.{IsClosed, IsEdge, IsOff}
use Rattle.grid_geom.proofs.Near.{IsNear, near_ahead}
use Rattle.grid_geom.proofs.Polygon.{lines}
use Rattle.wind_law.proofs.Uncrossed.{IsPartedByLine, uncrossed}
use Rattle.wind_law.proofs.EdgeLines.{lines_directed}
use Rattle.wind_law.proofs.NearPoint.{off_edges}
use Rattle.state_law.proofs.Parted.{AreParting, parting, within_all}

-- a point off the edges es, parted with v from each edge of fs
pub record HasPointBeside (v : RatPoint) (fs es : List Edge) : Type 0 where
  pub at : RatPoint
  pub rational : IsRational at
  pub off : IsOff at es
  pub parted : AllByRecursion (IsPartedByLine at v) fs

pub beside : (v : RatPoint) (fs es : List Edge) → IsRational v → AllByRecursion IsEdge fs → IsOff v fs → AllByRecursion IsEdge es → HasPointBeside v fs es
beside v fs es kv n o m = found (parting v fs n kv o)
  where
    found : AreParting v fs → HasPointBeside v fs es
    found p = result (near_ahead v v p.all (lines es) kv.positive kv.positive (within_all v v p.all p.left) (lines_directed es m))
      where
        result : IsNear v p.all (lines es) → HasPointBeside v fs es
        result r = record {
          at = r.at;
          rational = record { positive = r.rational };
          off = off_edges v r.at es r.clear;
          parted = p.parted r.at r.inside;
        }

pub beside_wind : (v : RatPoint) (fs es : List Edge) → IsRational v → IsClosed fs → (r : HasPointBeside v fs es) → wind r.at fs ≡ wind v fs
beside_wind v fs es kv c r = uncrossed r.at v fs c r.rational kv r.parted
