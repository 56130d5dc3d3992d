use Rattle.std.proofs.Common.{◌-◌, Contains, List, inl, inr, refl, sym, subst, arith}
use Rattle.digital_tree.specs.declared.Entry.{Entry}
use Rattle.front_chain.specs.Front.{state_of}
use Rattle.rule_match.specs.Near.{IsReachBox}
use Rattle.rule_match.proofs.BaseLines.{line_there}
use Rattle.mesh_run.specs.declared.refusals.Refusals.{Refusals}
use Rattle.mesh_run.specs.declared.refusals.Region.{Region}
use Rattle.mesh_run.specs.Remembered.{IsOfLine}
use Rattle.mesh_run.proofs.Noted.{class_before, new_own, new_region, region_on}
use Rattle.mesh_run.proofs.Regions.{still_there, was_there}
use Rattle.mesh_run.proofs.refusals.hold.Goals as goal

pub returns-then-is_no_farther-clause-held : goal.returns-then-is_no_farther-clause-held
returns-then-is_no_farther-clause-held c = λ ends e.
    let m = c.args.refusals.now in let f = c.args.scene.now.front.now in
    let same = c.if-is_no_farther.ensures refl in
    let before = class_before m.least.items c.args.line c.args.class same.0 c.requires.first in
    region_on m c.args.scene.now.sizes.now f.points (c.args.line, ends.0, ends.1) c.args.class (omega (arith, c.requires.last_class, c.requires.remembered.covers.long)) same.1
    (c.requires.remembered.reaching.regions (c.args.line, ends.0, ends.1) (c.args.class - 1) (line_there f.lines c.args.line ends e) before.0 before.1)

pub returns-in_err-insert-clause-own : goal.returns-in_err-insert-clause-own
returns-in_err-insert-clause-own c = λ e there. c.requires.remembered.reaching.own e (subst (λ (es : List (Entry Region)). Contains es e) c.in_err-insert.ensures.same there)

pub returns-clause-own : goal.returns-clause-own
returns-clause-own c = λ e there.
    let m = c.args.refusals.now in let f = c.args.scene.now.front.now in
    let made : Entry Region = record { key = c.in_ok-insert.field-0; bounds = c.reach_box-bounds.result; value = record { line = c.args.line; class = c.args.class } } in
    elim (was_there c.in_ok-insert.ensures.inserted e there) [
      | inl same ↦ subst (IsOfLine m.reaches.items c.args.scene.now.sizes.now (state_of f)) (sym same)
          (new_own f c.args.scene.now.sizes.now m.reaches.items c.args.line c.args.class c.reach_box-bounds.result c.in_ok-insert.field-0 c.lines-lines.ensures.holds (omega (arith, c.requires.last_class, c.requires.remembered.covers.long)) c.requires.on_front
          (λ ends at. subst (λ n. IsReachBox c.args.scene.now.sizes.now f.points n ends.0 ends.1 c.reach_box-bounds.result) c.reach_at-reach.ensures (c.reach_box-bounds.ensures ends at)))
      | inr was ↦ c.requires.remembered.reaching.own e was
    ]

pub returns-clause-stay : goal.returns-clause-stay
returns-clause-stay c = record { each = still_there c.in_ok-insert.ensures.inserted }

pub returns-clause-held : goal.returns-clause-held
returns-clause-held c = λ ends e.
    let m = c.args.refusals.now in let f = c.args.scene.now.front.now in
    let after : Refusals = record m { regions = c.insert.new.self } in
    new_region m after c.args.scene.now.sizes.now f.points (c.args.line, ends.0, ends.1) c.args.class c.reach_box-bounds.result _ refl (omega (arith, c.requires.last_class, c.requires.remembered.covers.long))
    c.in_ok-insert.ensures.inserted (subst (λ n. IsReachBox c.args.scene.now.sizes.now f.points n ends.0 ends.1 c.reach_box-bounds.result) c.reach_at-reach.ensures (c.reach_box-bounds.ensures ends e))
