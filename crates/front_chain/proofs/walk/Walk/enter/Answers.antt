use Rattle.std.proofs.Common.{ap, ◌∙◌, subst, nat_eq, Some, OnOk}
use Rattle.indexmap.specs.IndexMap.{Updates}
use Rattle.std.specs.List.{list_any}
use Rattle.front_chain.specs.Boxes.{has_line}
use Rattle.front_chain.proofs.Entries.{keyed_entered, not_keyed}
use Rattle.front_chain.proofs.walk.Walk.enter.Goals as goal

pub invariant_of-self : goal.invariant_of-self
invariant_of-self c =
    let key = c.insert_reserved-key.result in
    let put : Updates nat_eq c.self.inside.keys c.insert.new.self c.args.line (Some key) = subst (λ r. OnOk r (Updates nat_eq c.self.inside.keys c.insert.new.self c.args.line (Some key))) c.unwrap.ensures c.insert.ensures.updates in
    let absent = not_keyed c.args.line c.self.invariant.0 (ap (λ v. list_any (has_line c.args.line) v.entries) c.self.view_is ∙ c.requires.absent) in (
      keyed_entered c.args.line c.self.invariant.0 key c.insert_reserved-key.ensures.inserted c.insert_reserved-key.ensures.free absent put.0,
      c.insert.ensures.unique,
    )
