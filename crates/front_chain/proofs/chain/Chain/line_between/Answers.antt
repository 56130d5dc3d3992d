use Rattle.std.proofs.Common.{◌∙◌, sym, ap}
use Rattle.front_chain.specs.Front.{number_between}
use Rattle.front_chain.proofs.Tabled.{number_tabled}
use Rattle.front_chain.proofs.chain.Chain.line_between.Goals as goal

pub returns : goal.returns
returns c = c.copied.ensures ∙ c.get.ensures.value ∙ sym (number_tabled c.self.invariant.0 (record { from = c.args.from; to = c.args.to })) ∙ ap (λ v. number_between v.lines c.args.from c.args.to) c.self.view_is
