use Rattle.std.proofs.Common.{◌∙◌}
use Rattle.admission.proofs.Worked.{all_three, all_listed}
use Rattle.front_tests.proofs.gluing.admits_the_only_element_once.Goals as goal

pub admit-requires-2-clause-three : goal.admit-requires-2-clause-three
admit-requires-2-clause-three g c = all_three c.from_vec-2.result c.from_vec-3.result (c.from_vec-2.ensures ∙ c.in_ok-vec-2.ensures.items) (c.from_vec-3.ensures ∙ c.in_ok-vec-3.ensures.items)

pub admit-requires-2-clause-listed : goal.admit-requires-2-clause-listed
admit-requires-2-clause-listed g c = all_listed c.in_ok-front.front.points c.from_vec-2.result c.from_vec-3.result c.in_ok-front.ensures.points (c.from_vec-2.ensures ∙ c.in_ok-vec-2.ensures.items) (c.from_vec-3.ensures ∙ c.in_ok-vec-3.ensures.items)
