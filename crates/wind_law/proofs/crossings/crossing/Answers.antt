use mathlib.Core.Path.{sym}
use native.Mathlib.Omega.{arith}
use Rattle.std.proofs.lemmas.Int.{ints}
use Rattle.std.proofs.Common.{◌*ℤ◌}
use Rattle.grid_geom.specs.Plane.{orient_rat}
use Rattle.wind_law.proofs.HalfOpen.{cross_none}
use Rattle.wind_law.proofs.crossings.crossing.Goals as goal
use Rattle.wind_law.proofs.crossings.crossing.Goals.{else-start-q-via-then-start-q+then-q-end+else-orient_rat-gt0, else-start-q-via-then-start-q+else-q-end, else-start-q-via-else-start-q}
use Rattle.wind_law.proofs.crossings.crossing.Goals.{else-end-q-via-then-end-q+then-q-start+else-orient_rat-lt0, else-end-q-via-then-end-q+else-q-start, else-end-q-via-else-end-q}

pub returns-else-end-q-clause-value : goal.returns-else-end-q-clause-value
returns-else-end-q-clause-value c = let e = c.args.edge.now in let q = c.args.q.now in sym (cross_none (e.a.y *ℤ q.k) (e.b.y *ℤ q.k) q.y (orient_rat e.a e.b q)
    (elim c.else-start-q.branch [
      | else-start-q-via-then-start-q+then-q-end+else-orient_rat-gt0 w ↦ λ i j. omega (arith, ints, w.orient_rat.ensures)
      | else-start-q-via-then-start-q+else-q-end w ↦ λ i j. absurd (omega (arith, ints))
      | else-start-q-via-else-start-q w ↦ λ i j. absurd (omega (arith, ints))
    ])
    (elim c.else-end-q.branch [
      | else-end-q-via-then-end-q+then-q-start+else-orient_rat-lt0 w ↦ λ i j. omega (arith, ints, w.orient_rat-then-q-start.ensures)
      | else-end-q-via-then-end-q+else-q-start w ↦ λ i j. absurd (omega (arith, ints))
      | else-end-q-via-else-end-q w ↦ λ i j. absurd (omega (arith, ints))
    ]))
