use Rattle.std.proofs.Common.{◌≡◌, ◌∙◌, ◌-◌, ◌++◌, ◌∷◌, [], sym, ap, subst, IfOk}
use Rattle.indexmap.specs.IndexSet.{insert_key}
use Rattle.front_chain.specs.Front.{number_of, line_at}
use Rattle.front_chain.specs.Tables.{lines_from}
use Rattle.front_chain.specs.Boxes.{AreBoxed}
use Rattle.front_chain.proofs.Boxed.{boxed_listed}
use Rattle.front_chain.proofs.Walks.{ends_at}
use Rattle.front_chain.proofs.Places.{same_place, new_keys}
use Rattle.front_chain.proofs.Tabled.{listed_at}
use Rattle.front_chain.proofs.chain.Chain.add_point.Goals as goal

pub invariant_of-self : goal.invariant_of-self
invariant_of-self c =
    let new = ap (λ v. number_of v.points c.args.p) c.self.view_is ∙ c.requires.new_place in
    let keys : c.insert.new.self.keys ≡ insert_key same_place c.self.inside.places.keys c.args.p = subst (λ r. IfOk r (λ _. c.insert.new.self.keys ≡ insert_key same_place c.self.inside.places.keys c.args.p)) c.unwrap.ensures c.insert.ensures.keys in
    let points = keys ∙ new_keys c.args.p c.self.inside.places.keys new in
    let made = c.self.inside.order.made in (
      listed_at c.args.p c.self.invariant.0 points c.push_reserved.ensures.items,
      c.self.invariant.1,
      subst (λ ps. AreBoxed ps (line_at (lines_from 1 made)) c.self.inside.walk.entries) (sym points) (boxed_listed c.self.invariant.2 c.args.p (λ n line is. c.self.invariant.0.joined (n - 1) (record { from = line.0; to = line.1 }) (ends_at made n line is).1)),
    )

pub returns-clause-points : goal.returns-clause-points
returns-clause-points c =
    let new = ap (λ v. number_of v.points c.args.p) c.self.view_is ∙ c.requires.new_place in
    let keys : c.insert.new.self.keys ≡ insert_key same_place c.self.inside.places.keys c.args.p = subst (λ r. IfOk r (λ _. c.insert.new.self.keys ≡ insert_key same_place c.self.inside.places.keys c.args.p)) c.unwrap.ensures c.insert.ensures.keys in
    keys ∙ new_keys c.args.p c.self.inside.places.keys new ∙ ap (λ v. v.points ++ c.args.p ∷ []) c.self.view_is
