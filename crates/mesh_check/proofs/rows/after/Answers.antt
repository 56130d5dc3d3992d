use Rattle.std.proofs.Common.{refl, sym, ◌∙◌, ap, subst, ◌+◌, ◌++◌, ◌∷◌, []}
use Rattle.grid_geom.specs.declared.Point.{Point}
use Rattle.grid_geom.proofs.Booleans.{point_eq}
use Rattle.state_law.specs.State.{point_at}
use Rattle.mesh_check.specs.Walked.{places_of, StandsAt}
use Rattle.mesh_check.proofs.Moves.{differ_by}
use Rattle.mesh_check.proofs.Walks.{begun, walked_on, stands_on}
use Rattle.mesh_check.proofs.rows.after.Goals as goal

pub returns-then-eq-clause-stands : goal.returns-then-eq-clause-stands
returns-then-eq-clause-stands c = λ rows s. begun c.args.g.now (places_of c.args.g.now c.args.m.now) (c.args.stand.done + 1) (rows ++ c.args.row.now ∷ []) c.begin.result c.last_of.ensures.geometry refl c.begin.ensures.none c.begin.ensures.some
    (walked_on (places_of c.args.g.now c.args.m.now) c.args.g.now.segments c.args.stand.done c.args.stand.at rows c.args.row.now s c.requires.step
    (sym (c.place-end.ensures ∙ ap (λ ps. point_at ps c.args.row.now.b) c.as_slice.ensures) ∙ point_eq c.place-end.result c.last_of.result c.eq.result c.eq.ensures c.if-eq.true ∙ c.last_of.ensures.value))

pub returns-else-eq-clause-stands : goal.returns-else-eq-clause-stands
returns-else-eq-clause-stands c = λ rows s. subst (λ (p : Point). StandsAt (places_of c.args.g.now c.args.m.now) c.args.g.now.segments c.args.stand.done p (rows ++ c.args.row.now ∷ [])) (sym (c.place-end.ensures ∙ ap (λ ps. point_at ps c.args.row.now.b) c.as_slice.ensures))
    (stands_on (places_of c.args.g.now c.args.m.now) c.args.g.now.segments c.args.stand.done c.args.stand.at rows c.args.row.now s c.requires.step
    (λ e. differ_by c.place-end.result c.last_of.result c.eq.result c.eq.ensures c.if-eq.false (c.place-end.ensures ∙ ap (λ ps. point_at ps c.args.row.now.b) c.as_slice.ensures ∙ e ∙ sym c.last_of.ensures.value)))
