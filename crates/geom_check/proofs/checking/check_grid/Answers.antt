use Rattle.std.proofs.Common.{◌∙◌, All, sym, subst}
use Rattle.std.proofs.lemmas.Result.{err_from_is_err_and}
use Rattle.wind_law.specs.Grid.{IsEdgeOnGrid}
use Rattle.geom_check.specs.Accepted.{AreApart}
use Rattle.geom_check.proofs.EdgesTurned.{edges_on_grid}
use Rattle.geom_check.proofs.GridFaults.{winding_fault}
use Rattle.geom_check.proofs.checking.check_grid.Goals as goal

pub first_tangled-requires : goal.first_tangled-requires
first_tangled-requires c = subst (All IsEdgeOnGrid) (sym (c.deref.ensures.value ∙ c.in_ok-edges.ensures)) (edges_on_grid c.args.points.now c.args.segments.now c.requires.on_grid c.requires.joined)

pub returns-in-Some-2-clause-refused : goal.returns-in-Some-2-clause-refused
returns-in-Some-2-clause-refused c =
    (c.in_ok-check_rows.ensures.places, (c.in_ok-check_rows.ensures.sides, (c.in_ok-check_rows.ensures.ends, (subst AreApart (c.deref.ensures.value ∙ c.in_ok-edges.ensures) (rw c.in_default.is at c.in_ok-i.ensures.none), rw c.in-Some-2.is at c.in_ok-point.ensures.found))))

pub check_windings-requires-clause-apart : goal.check_windings-requires-clause-apart
check_windings-requires-clause-apart c = subst AreApart (c.deref.ensures.value ∙ sym c.deref-2.ensures.value) (rw c.in_default.is at c.in_ok-i.ensures.none)

pub returns-in_err-check_windings-clause-refused : goal.returns-in_err-check_windings-clause-refused
returns-in_err-check_windings-clause-refused c =
    let p = err_from_is_err_and c.from_residual-in_err-check_windings.result c.from_residual-in_err-check_windings.ensures.1 in
    let apart = subst AreApart (c.deref.ensures.value ∙ c.in_ok-edges.ensures) (rw c.in_default.is at c.in_ok-i.ensures.none) in
    rw (p.1, p.2)
    (winding_fault c.args.points.now c.args.segments.now c.in_err-check_windings.field-0.0 c.in_ok-check_rows.ensures.places c.in_ok-check_rows.ensures.sides c.in_ok-check_rows.ensures.ends apart (rw c.in_default-2.is at c.in_ok-point.ensures.none) c.in_err-check_windings.ensures.refused)

pub returns-clause-planar : goal.returns-clause-planar
returns-clause-planar c = record {
  places = c.in_ok-check_rows.ensures.places;
  sides = c.in_ok-check_rows.ensures.sides;
  ends = c.in_ok-check_rows.ensures.ends;
  apart = subst AreApart (c.deref.ensures.value ∙ c.in_ok-edges.ensures) (rw c.in_default.is at c.in_ok-i.ensures.none);
  closed = rw c.in_default-2.is at c.in_ok-point.ensures.none;
  winding = c.in_ok-check_windings.ensures.winding;
  separate = c.in_ok-check_windings.ensures.separate;
}
