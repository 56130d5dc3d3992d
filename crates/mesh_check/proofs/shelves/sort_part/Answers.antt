use Rattle.std.proofs.Common.{◌-◌}
use Rattle.std.proofs.lemmas.List.Sorted.{IsPermutation-put_mid}
use Rattle.mesh_check.proofs.shelves.sort_part.Goals as goal

pub returns-clause-kept : goal.returns-clause-kept
returns-clause-kept c = IsPermutation-put_mid c.args.from (c.args.to - c.args.from) c.args.keys.now c.sort_unstable.new.self c.sort_unstable.ensures.permutation
