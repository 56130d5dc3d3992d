use Rattle.std.proofs.lemmas.List.Elements.{All-from_recursion}
use Rattle.rule_maps.specs.Reach.{IsLeeway}
use Rattle.rule_maps.proofs.Reaches.{ranges}
use Rattle.rule_maps.proofs.reach.reach_of.Goals as goal

pub reach_from-requires-clause-leeways : goal.reach_from-requires-clause-leeways
reach_from-requires-clause-leeways c = rw (c.deref.ensures.value, c.in_ok-leeways.ensures, c.as_slice.ensures) (All-from_recursion IsLeeway _ (ranges c.args.rule.now.points c.requires.points.1))
