use Rattle.std.proofs.Common.{refl}
use Rattle.front_chain.proofs.Boxed.{boxed_kept}
use Rattle.front_chain.proofs.Tabled.{tables_kept}
use Rattle.front_chain.proofs.chain.Chain.reserve.Goals as goal

pub invariant_of-self-in_err-reserve-4 : goal.invariant_of-self-in_err-reserve-4
invariant_of-self-in_err-reserve-4 c = (
  tables_kept c.self.invariant.0 c.reserve.ensures.keys c.reserve-2.ensures.items c.reserve-4.ensures.made refl,
  c.self.invariant.1,
  boxed_kept c.self.invariant.2 c.reserve.ensures.keys c.reserve-4.ensures.made refl,
)

pub invariant_of-self-in_err-reserve-5 : goal.invariant_of-self-in_err-reserve-5
invariant_of-self-in_err-reserve-5 c = (
  tables_kept c.self.invariant.0 c.reserve.ensures.keys c.reserve-2.ensures.items c.reserve-4.ensures.made c.reserve-5.ensures.entries,
  c.reserve-5.ensures.unique,
  boxed_kept c.self.invariant.2 c.reserve.ensures.keys c.reserve-4.ensures.made refl,
)

pub invariant_of-self-2 : goal.invariant_of-self-2
invariant_of-self-2 c = (
  tables_kept c.self.invariant.0 c.reserve.ensures.keys c.reserve-2.ensures.items c.reserve-4.ensures.made c.reserve-5.ensures.entries,
  c.reserve-5.ensures.unique,
  boxed_kept c.self.invariant.2 c.reserve.ensures.keys c.reserve-4.ensures.made c.reserve-6.ensures.same,
)
