use Rattle.std.proofs.Common.{◌∙◌, sym, subst}
use Rattle.front_chain.specs.Front.{IsGluable}
use Rattle.front_chain.proofs.Worked.{triangle_gluable}
use Rattle.front_tests.proofs.lines.the_only_element_leaves_nothing.Goals as goal

pub glue-requires-clause-gluable : goal.glue-requires-clause-gluable
glue-requires-clause-gluable g c = subst (IsGluable c.reserve.new.self) (sym (c.from_vec.ensures ∙ c.in_ok-vec.ensures.items))
    (triangle_gluable c.reserve.new.self (c.reserve.ensures.points ∙ c.in_ok-front.ensures.points) (c.reserve.ensures.lines ∙ c.in_ok-front.ensures.lines))
