use Rattle.std.proofs.Common.{◌≡◌, ℕ, List, [], ◌∷◌, length, ap, ◌∙◌}
use Rattle.std.specs.List.{All}
use Rattle.std.proofs.lemmas.List.Elements.{All-cons, All-nil}
use Rattle.admission.proofs.Worked.{new_place}
use Rattle.front_tests.proofs.gluing.refuses_a_corner_on_a_line_and_a_turned_element.Goals as goal

-- one element of three corners
one_triangle : (ns : List ℕ) → length ns ≡ 3 → All (λ ms. length ms ≡ 3) (ns ∷ [])
one_triangle ns e = All-cons (λ ms. length ms ≡ 3) ns [] e (All-nil (λ ms. length ms ≡ 3))

pub admit-requires-clause-new_places : goal.admit-requires-clause-new_places
admit-requires-clause-new_places g c = new_place c.in_ok-front.front.points c.in_ok-front.ensures.points

pub admit-requires-2-clause-three : goal.admit-requires-2-clause-three
admit-requires-2-clause-three g c = one_triangle c.from_vec-2.result (ap length (c.from_vec-2.ensures ∙ c.in_ok-vec-2.ensures.items))
