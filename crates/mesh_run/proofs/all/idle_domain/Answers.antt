use Rattle.std.proofs.Common.{◌≡◌, Result, Ok, Err, IfOk, ◌∙◌, sym, subst}
use Rattle.size_field.proofs.AllPieces.{all_pieces}
use Rattle.mesh_run.specs.Mesh.{NamesItsPoints}
use Rattle.mesh_run.specs.Opening.{unmeshed_run}
use Rattle.mesh_run.specs.Runs.{IsDomainRun, pieces_by}
use Rattle.mesh_run.proofs.IdleRun.{idle_run}
use Rattle.mesh_run.proofs.Ranges.{unmeshed_names}
use Rattle.mesh_run.proofs.all.idle_domain.Goals as goal

-- what is answered is x, of which P holds
of_ok : {A E : Type 0} (P : A → Type 0) (x : A) (r : Result A E) → IfOk r (λ y. y ≡ x) → P x → IfOk r P
of_ok P x (Ok y) e h = subst P (sym e) h
of_ok P x (Err f) e h = tt

pub open_domain-requires-clause-pieces : goal.open_domain-requires-clause-pieces
open_domain-requires-clause-pieces c =
    let options = c.args.ground.now.options.now in
    rw (c.segments-segments.ensures.value, c.as_slice.ensures, c.requires.pieces)
    (λ k d within. (all_pieces c.args.ground.now.geometry.now options.greatest options.grading c.segments-segments.ensures.accepted k d within).of_segment)

pub returns-clause-run : goal.returns-clause-run
returns-clause-run c =
    let ground = c.args.ground.now in
    let pieces : c.as_slice.result.now ≡ pieces_by ground.geometry.now ground.options.now = c.as_slice.ensures ∙ c.requires.pieces in
    let same : unmeshed_run c.args.domain c.segments-segments.result.now c.as_slice.result.now ≡ unmeshed_run c.args.domain ground.geometry.now.segments (pieces_by ground.geometry.now ground.options.now) =
    λ i. unmeshed_run c.args.domain (c.segments-segments.ensures.value i) (pieces i) in
    of_ok _ _ c.open_domain.result c.open_domain.ensures
    (subst (IsDomainRun ground.geometry.now ground.rules.now ground.options.now c.args.domain) (sym same) (idle_run ground.geometry.now ground.rules.now ground.options.now c.args.domain c.requires.idle))

pub returns-clause-names : goal.returns-clause-names
returns-clause-names c =
    of_ok NamesItsPoints _ c.open_domain.result c.open_domain.ensures (unmeshed_names c.segments-segments.result.now c.as_slice.result.now c.args.domain)
