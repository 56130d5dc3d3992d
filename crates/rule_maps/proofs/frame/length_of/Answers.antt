use Rattle.rule_maps.specs.Frame.{dot}
use Rattle.rule_maps.proofs.Frames.{length_back, length_root, length_small}
use Rattle.rule_maps.proofs.frame.length_of.Goals as goal

pub returns-clause-root : goal.returns-clause-root
returns-clause-root c = length_root (length_back (dot c.args.e c.args.e) c.dot_of.result c.isqrt.result c.dot_of.ensures.value c.dot_of.ensures.small c.isqrt.ensures.least c.isqrt.ensures.greatest c.isqrt.ensures.not_negative)

pub returns-clause-small : goal.returns-clause-small
returns-clause-small c = length_small (length_back (dot c.args.e c.args.e) c.dot_of.result c.isqrt.result c.dot_of.ensures.value c.dot_of.ensures.small c.isqrt.ensures.least c.isqrt.ensures.greatest c.isqrt.ensures.not_negative)
