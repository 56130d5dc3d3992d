use Rattle.std.proofs.Common.{◌≡◌, ◌∙◌, sym, ap, arith, nat_eq, is_some, Some}
use mathlib.Core.Logic.{inl, inr}
use Rattle.std.specs.Option.{option_copied}
use Rattle.indexmap.specs.IndexMap.{get}
use Rattle.front_chain.specs.Front.{number_above}
use Rattle.front_chain.specs.Tables.{lines_from}
use Rattle.front_chain.proofs.Neighbours.{Table}
use Rattle.front_chain.proofs.Numbered.{above_tabled, ahead_next, fewer_steps}
use Rattle.front_chain.proofs.order.Order.first_above.Goals as goal

pub loop-n-smaller : goal.loop-n-smaller
loop-n-smaller c =
    let links : Table = λ n. get nat_eq c.self.inside.links n in
    let there : links c.loop-n.n ≡ Some c.unwrap.result.now = sym c.get.ensures.value ∙ ap option_copied c.unwrap.ensures in
    fewer_steps links c.self.inside.count c.self.inside.first c.self.inside.last c.loop-n.n c.unwrap.result.now.after c.self.invariant.0 (ap is_some there) (c.self.invariant.0.after_is c.loop-n.n c.unwrap.result.now there)

pub loop-n-preserved : goal.loop-n-preserved
loop-n-preserved c =
    let links : Table = λ n. get nat_eq c.self.inside.links n in
    let there : links c.loop-n.n ≡ Some c.unwrap.result.now = sym c.get.ensures.value ∙ ap option_copied c.unwrap.ensures in
    ahead_next links c.args.after c.loop-n.n c.unwrap.result.now.after (c.self.invariant.0.after_is c.loop-n.n c.unwrap.result.now there) (omega (arith, c.if-n-after.true))

pub returns-else-n-after : goal.returns-else-n-after
returns-else-n-after c = above_tabled (λ n. get nat_eq c.self.inside.links n) c.self.inside.count c.self.inside.first c.self.inside.last c.args.after c.loop-n.n c.self.invariant.0 c.loop-n.invariant (inr (omega (arith, c.if-n-after.false)))
    ∙ ap (λ v. number_above (lines_from 1 v.made) c.args.after) c.self.view_is

pub returns-after-loop-n : goal.returns-after-loop-n
returns-after-loop-n c = above_tabled (λ n. get nat_eq c.self.inside.links n) c.self.inside.count c.self.inside.first c.self.inside.last c.args.after c.loop-n.n c.self.invariant.0 c.loop-n.invariant (inl (omega (arith, c.loop-n-test.false)))
    ∙ ap (λ v. number_above (lines_from 1 v.made) c.args.after) c.self.view_is
