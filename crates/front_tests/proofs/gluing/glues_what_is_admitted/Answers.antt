use Rattle.std.proofs.Common.{◌≡◌, ℕ, List, [], ◌∷◌, length, ap, ◌∙◌}
use Rattle.std.specs.List.{All}
use Rattle.std.proofs.lemmas.List.Elements.{All-cons, All-nil}
use Rattle.admission.proofs.Worked.{ring_gluable}
use Rattle.front_tests.proofs.gluing.glues_what_is_admitted.Goals as goal

-- one element of three corners
one_triangle : (ns : List ℕ) → length ns ≡ 3 → All (λ ms. length ms ≡ 3) (ns ∷ [])
one_triangle ns e = All-cons (λ ms. length ms ≡ 3) ns [] e (All-nil (λ ms. length ms ≡ 3))

pub admit-requires-clause-three : goal.admit-requires-clause-three
admit-requires-clause-three g c = one_triangle c.from_vec.result (ap length (c.from_vec.ensures ∙ c.in_ok-vec.ensures.items))

pub glue-requires-clause-gluable : goal.glue-requires-clause-gluable
glue-requires-clause-gluable g c = ring_gluable c.in_ok-front.front c.reserve.new.self c.from_vec.result c.in_ok-front.ensures.points (c.from_vec.ensures ∙ c.in_ok-vec.ensures.items) c.in-Ok.ensures.may c.reserve.ensures.points c.reserve.ensures.lines c.reserve.ensures.next
