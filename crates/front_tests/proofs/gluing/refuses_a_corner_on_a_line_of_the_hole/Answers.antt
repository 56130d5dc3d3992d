use Rattle.admission.proofs.Worked.{new_on_hole}
use Rattle.front_tests.proofs.gluing.refuses_a_corner_on_a_line_of_the_hole.Goals as goal

pub admit-requires-clause-new_places : goal.admit-requires-clause-new_places
admit-requires-clause-new_places g c = new_on_hole c.in_ok-front.front.points c.in_ok-front.ensures.points
