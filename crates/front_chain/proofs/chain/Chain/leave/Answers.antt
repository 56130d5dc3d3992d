use Rattle.std.proofs.Common.{◌∙◌, ◌-◌, ◌≤◌, sym, ap, subst, arith, is_some, slice_set}
use Rattle.std.proofs.lemmas.Grind.{get_or_default_zero}
use Rattle.state_law.specs.State.{glue_line}
use Rattle.indexmap.specs.IndexMap.{get}
use Rattle.std.specs.Option.{option_map}
use Rattle.front_chain.specs.Front.{number_between, line_at}
use Rattle.front_chain.specs.Tables.{lines_from, AreTables}
use Rattle.front_chain.specs.Boxes.{AreBoxed}
use Rattle.front_chain.proofs.Boxed.{leaves, boxed_left}
use Rattle.front_chain.proofs.Entries.{is_there}
use Rattle.front_chain.proofs.Lines.{same_side, ends, line_numbered}
use Rattle.front_chain.proofs.Tabled.{number_tabled, is_left, lines_left, left_at}
use Rattle.front_chain.proofs.chain.Chain.leave.Goals as goal

pub delist-requires-clause-positive : goal.delist-requires-clause-positive
delist-requires-clause-positive c = (c.self.invariant.0.kept c.args.side c.args.number (sym (number_tabled c.self.invariant.0 c.args.side) ∙ ap (λ v. number_between v.lines c.args.side.from c.args.side.to) c.self.view_is ∙ c.requires.there)).0

pub delist-requires-clause-there : goal.delist-requires-clause-there
delist-requires-clause-there c = ap is_some (c.self.invariant.0.kept c.args.side c.args.number (sym (number_tabled c.self.invariant.0 c.args.side) ∙ ap (λ v. number_between v.lines c.args.side.from c.args.side.to) c.self.view_is ∙ c.requires.there)).1

pub delist-requires-clause-walked : goal.delist-requires-clause-walked
delist-requires-clause-walked c =
    let there = sym (number_tabled c.self.invariant.0 c.args.side) ∙ ap (λ v. number_between v.lines c.args.side.from c.args.side.to) c.self.view_is ∙ c.requires.there in
    let kept = c.self.invariant.0.kept c.args.side c.args.number there in
    is_there c.self.invariant.2.single c.args.number ∙ ap is_some (line_numbered c.self.inside.order.made c.args.number kept.0 ∙ ap (option_map ends) kept.1)

pub overflow_sub-side : goal.overflow_sub-side
overflow_sub-side c =
    let there = sym (number_tabled c.self.invariant.0 c.args.side) ∙ ap (λ v. number_between v.lines c.args.side.from c.args.side.to) c.self.view_is ∙ c.requires.there in
    (c.self.invariant.0.joined (c.args.number - 1) c.args.side (c.self.invariant.0.kept c.args.side c.args.number there).1).0.0

pub index_mut-requires : goal.index_mut-requires
index_mut-requires c =
    let there = sym (number_tabled c.self.invariant.0 c.args.side) ∙ ap (λ v. number_between v.lines c.args.side.from c.args.side.to) c.self.view_is ∙ c.requires.there in
    let listed = (c.self.invariant.0.joined (c.args.number - 1) c.args.side (c.self.invariant.0.kept c.args.side c.args.number there).1).0 in
    omega (arith, listed.0, listed.1, c.self.invariant.0.as_many, c.self.inside.leaving.ok.0)

pub overflow_sub-index_mut : goal.overflow_sub-index_mut
overflow_sub-index_mut c =
    let there = sym (number_tabled c.self.invariant.0 c.args.side) ∙ ap (λ v. number_between v.lines c.args.side.from c.args.side.to) c.self.view_is ∙ c.requires.there in
    let listed = (c.self.invariant.0.joined (c.args.number - 1) c.args.side (c.self.invariant.0.kept c.args.side c.args.number there).1).0 in
    let read = c.index_mut.ensures.value ∙ get_or_default_zero c.self.inside.leaving.items (c.args.side.from - 1) c.index_mut.result.now (omega (arith, listed.0, listed.1, c.self.invariant.0.as_many)) in
    subst (λ n. 1 ≤ n) (sym read) (is_left c.self.invariant.0 c.args.side c.args.number there)

pub invariant_of-self : goal.invariant_of-self
invariant_of-self c =
    let there = sym (number_tabled c.self.invariant.0 c.args.side) ∙ ap (λ v. number_between v.lines c.args.side.from c.args.side.to) c.self.view_is ∙ c.requires.there in
    let listed = (c.self.invariant.0.joined (c.args.number - 1) c.args.side (c.self.invariant.0.kept c.args.side c.args.number there).1).0 in
    let read = c.index_mut.ensures.value ∙ get_or_default_zero c.self.inside.leaving.items (c.args.side.from - 1) c.index_mut.result.now (omega (arith, listed.0, listed.1, c.self.invariant.0.as_many)) in (
      subst (λ made. AreTables c.self.inside.places.keys (slice_set c.self.inside.leaving.items (c.args.side.from - 1) (c.index_mut.result.now - 1)) made (λ s. get same_side c.swap_remove.new.self s)) (sym c.delist.ensures.made)
          (left_at c.self.invariant.0 c.args.side c.args.number c.index_mut.result.now read there c.swap_remove.ensures.updates.0),
      c.swap_remove.ensures.unique,
      subst (λ made. AreBoxed c.self.inside.places.keys (line_at (lines_from 1 made)) c.delist.new.walk.entries) (sym c.delist.ensures.made) (boxed_left c.self.invariant.2 c.delist.ensures.left (leaves c.self.inside.order.made c.args.number (c.self.invariant.0.kept c.args.side c.args.number there).0)),
    )

pub returns-clause-lines : goal.returns-clause-lines
returns-clause-lines c =
    let there = sym (number_tabled c.self.invariant.0 c.args.side) ∙ ap (λ v. number_between v.lines c.args.side.from c.args.side.to) c.self.view_is ∙ c.requires.there in
    ap (lines_from 1) c.delist.ensures.made ∙ lines_left c.self.invariant.0 _ c.args.side c.args.number there ∙ ap (λ v. glue_line v.lines v.next (c.args.side.from, c.args.side.to)) c.self.view_is
