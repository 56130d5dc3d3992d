use Rattle.std.proofs.Common.{◌∙◌, sym, subst, List}
use Rattle.std.proofs.lemmas.List.{get_or_default}
use Rattle.geom_check.specs.declared.risers.Passing.{Passing}
use Rattle.geom_check.specs.Risers.{is_chosen}
use Rattle.geom_check.specs.RiserOrder.{IsOrder, IsFaultyAfter}
use Rattle.geom_check.proofs.StripWinding.{sound_strip}
use Rattle.geom_check.proofs.strips.strip_fault.Goals as goal

pub returns-in-Some-clause-found : goal.returns-in-Some-clause-found
returns-in-Some-clause-found c =
    let walked : IsFaultyAfter (is_chosen c.args.chosen) c.in_ok-order.order.items c.in-Some.j = subst (λ (xs : List Passing). IsFaultyAfter (is_chosen c.args.chosen) xs c.in-Some.j) c.deref.ensures.value c.in-Some.ensures.found in
    record {
      items = c.in_ok-order.order.items;
      order = c.in_ok-order.ensures;
      place = c.in-Some.j;
      faulty = walked;
      left_is = λ d. get_or_default c.in_ok-order.order.items c.in-Some.j d c.index.result.now walked.in_list ∙ sym c.index.ensures;
    }

pub returns-clause-none : goal.returns-clause-none
returns-clause-none c = sound_strip c.args.strip.now.low c.args.strip.now.high (is_chosen c.args.chosen) c.args.risers.now c.deref.result.now c.requires.strip.ordered c.requires.clear
    (subst (λ (xs : List Passing). IsOrder c.args.strip.now.low c.args.strip.now.high c.args.risers.now xs) (sym c.deref.ensures.value) c.in_ok-order.ensures) c.requires.balanced c.in-None.ensures.none
