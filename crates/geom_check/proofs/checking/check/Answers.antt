use Rattle.std.proofs.Common.{◌∙◌, refl, subst}
use Rattle.std.specs.Prelude.{Any}
use Rattle.std.proofs.lemmas.Result.{err_from_is_err_and}
use Rattle.geom_check.specs.Accepted.{NamesDomain}
use Rattle.geom_check.proofs.PlacedGrid.{placed_joined}
use Rattle.geom_check.proofs.Refusals.{refusal_placed}
use Rattle.geom_check.proofs.Acceptance.{geometry_placed, geometry_of_placed}
use Rattle.geom_check.proofs.checking.check.Goals as goal

pub check_grid-requires-clause-on_grid : goal.check_grid-requires-clause-on_grid
check_grid-requires-clause-on_grid c = rw c.as_slice-2.ensures (placed_joined c.args.raw.now c.in_ok-shift.field-0 c.requires c.in_ok-shift.ensures.placed).on_grid

pub check_grid-requires-clause-joined : goal.check_grid-requires-clause-joined
check_grid-requires-clause-joined c = rw (c.as_slice-2.ensures, c.as_slice-3.ensures) (placed_joined c.args.raw.now c.in_ok-shift.field-0 c.requires c.in_ok-shift.ensures.placed).joined

pub check_grid-requires-clause-few : goal.check_grid-requires-clause-few
check_grid-requires-clause-few c = rw c.as_slice-3.ensures (placed_joined c.args.raw.now c.in_ok-shift.field-0 c.requires c.in_ok-shift.ensures.placed).few_segments

pub returns-in_err-check_grid-clause-refused : goal.returns-in_err-check_grid-clause-refused
returns-in_err-check_grid-clause-refused c =
    let p = err_from_is_err_and c.from_residual-in_err-check_grid.result c.from_residual-in_err-check_grid.ensures.1 in
    rw (p.1, p.2) (refusal_placed c.args.raw.now c.in_ok-shift.field-0 c.in_err-check_grid.field-0.0 (subst (Any NamesDomain) c.as_slice.ensures (c.names_domain.ensures.0 c.if-not-names_domain.false)) c.in_ok-shift.ensures.placed
    (rw (c.as_slice-2.ensures, c.as_slice-3.ensures) at c.in_err-check_grid.ensures.refused))

pub new-requires : goal.new-requires
new-requires c = geometry_placed c.args.raw.now c.in_ok-shift.field-0 c.from_vec.result c.from_vec-2.result c.requires c.in_ok-shift.ensures.placed (rw (c.as_slice-2.ensures, c.as_slice-3.ensures) at c.in_ok-check_grid.ensures.planar)
    (c.from_vec.ensures ∙ c.in_ok-flagged.ensures ∙ rw c.as_slice-4.ensures refl) (c.from_vec-2.ensures ∙ c.in_ok-domains.ensures ∙ rw (c.as_slice-6.ensures, c.as_slice-7.ensures) refl)

pub returns-clause-accepted : goal.returns-clause-accepted
returns-clause-accepted c =
    geometry_of_placed c.args.raw.now c.in_ok-shift.field-0 c.from_vec.result c.from_vec-2.result c.new.result (subst (Any NamesDomain) c.as_slice.ensures (c.names_domain.ensures.0 c.if-not-names_domain.false)) c.in_ok-shift.ensures.placed
    (rw (c.as_slice-2.ensures, c.as_slice-3.ensures) at c.in_ok-check_grid.ensures.planar)
    (c.from_vec.ensures ∙ c.in_ok-flagged.ensures ∙ rw c.as_slice-4.ensures refl)
    (c.from_vec-2.ensures ∙ c.in_ok-domains.ensures ∙ rw (c.as_slice-6.ensures, c.as_slice-7.ensures) refl) c.new.ensures
