use Rattle.std.proofs.Common.{◌∙◌, ◌+◌, ◌-◌, ◌++◌, ◌∷◌, [], sym, ap, subst, arith, Some, OnOk, length, slice_set, is_some, refl}
use Rattle.std.proofs.lemmas.Grind.{get_or_default_zero}
use Rattle.wind_law.specs.Chains.{edge}
use Rattle.front_chain.specs.Front.{number_between, line_at}
use Rattle.state_law.specs.State.{IsListed, point_at}
use Rattle.front_chain.specs.Tables.{lines_from, AreTables}
use Rattle.front_chain.specs.Boxes.{box_of, AreBoxed}
use Rattle.indexmap.specs.IndexMap.{get, Updates}
use Rattle.front_chain.proofs.Boxed.{joins, boxed_entered}
use Rattle.front_chain.proofs.Entries.{is_there}
use Rattle.front_chain.proofs.Lines.{same_side, lines_push}
use Rattle.front_chain.proofs.Tabled.{number_tabled, may_rise, joined_at}
use Rattle.front_chain.proofs.chain.Chain.join.Goals as goal

pub overflow_add-index_mut : goal.overflow_add-index_mut
overflow_add-index_mut c =
    let listed = subst (λ n. IsListed n c.args.side.from) (ap (λ v. length v.points) (sym c.self.view_is)) c.requires.from in
    let read = c.index_mut.ensures.value ∙ get_or_default_zero c.self.inside.leaving.items (c.args.side.from - 1) c.index_mut.result.now (omega (arith, listed.0, listed.1, c.self.invariant.0.as_many)) in
    omega (arith, read, may_rise c.self.invariant.0 c.args.side.from listed, c.enlist-number.ensures.number, c.enlist-number.ensures.small)

pub enlist-number-requires-clause-absent : goal.enlist-number-requires-clause-absent
enlist-number-requires-clause-absent c =
    let made = c.self.inside.order.made in
    is_there c.self.invariant.2.single (length made + 1) ∙ ap is_some (joins made c.args.side (length made + 1) refl).absent

pub invariant_of-self : goal.invariant_of-self
invariant_of-self c =
    let from = subst (λ n. IsListed n c.args.side.from) (ap (λ v. length v.points) (sym c.self.view_is)) c.requires.from in
    let to = subst (λ n. IsListed n c.args.side.to) (ap (λ v. length v.points) (sym c.self.view_is)) c.requires.to in
    let read = c.index_mut.ensures.value ∙ get_or_default_zero c.self.inside.leaving.items (c.args.side.from - 1) c.index_mut.result.now (omega (arith, from.0, from.1, c.self.invariant.0.as_many)) in
    let absent = sym (number_tabled c.self.invariant.0 c.args.side) ∙ ap (λ v. number_between v.lines c.args.side.from c.args.side.to) c.self.view_is ∙ c.requires.absent in
    let put : Updates same_side c.self.inside.sides c.insert.new.self c.args.side (Some c.enlist-number.result) = subst (λ r. OnOk r (Updates same_side c.self.inside.sides c.insert.new.self c.args.side (Some c.enlist-number.result))) c.unwrap.ensures c.insert.ensures.updates in
    let number = c.enlist-number.ensures.number in
    let start = c.point.ensures ∙ ap (λ v. point_at v.points c.args.side.from) (sym c.self.view_is) in
    let end = c.point-2.ensures ∙ ap (λ v. point_at v.points c.args.side.to) (sym c.self.view_is) in
    let box = c.box_between-bounds.ensures ∙ (λ i. box_of (edge (start i) (end i))) in (
      subst (λ made. AreTables c.self.inside.places.keys (slice_set c.self.inside.leaving.items (c.args.side.from - 1) (c.index_mut.result.now + 1)) made (λ s. get same_side c.insert.new.self s)) (sym c.enlist-number.ensures.made)
          (joined_at c.self.invariant.0 c.args.side c.index_mut.result.now c.enlist-number.result read number from to absent put.0),
      c.insert.ensures.unique,
      subst (λ made. AreBoxed c.self.inside.places.keys (line_at (lines_from 1 made)) c.enlist-number.new.walk.entries) (sym c.enlist-number.ensures.made) (boxed_entered c.self.invariant.2 c.enlist-number.ensures.entered (joins c.self.inside.order.made c.args.side c.enlist-number.result number) box),
    )

pub returns-clause-lines : goal.returns-clause-lines
returns-clause-lines c = ap (lines_from 1) c.enlist-number.ensures.made ∙ lines_push 1 c.self.inside.order.made c.args.side ∙ ap (λ v. v.lines ++ (v.next, c.args.side.from, c.args.side.to) ∷ []) c.self.view_is
