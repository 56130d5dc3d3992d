use Rattle.std.proofs.Common.{◌≡◌, ◌++◌, drop}
use Rattle.mesh_check.specs.Balance.{element_sides}
use Rattle.mesh_check.proofs.sides.sides_of_elements.Given as goal

abbrev pub invariant-loop-element : goal.invariant-loop-element
invariant-loop-element l = l.sides.items ++ element_sides (drop l.element-index l.elements) ≡ element_sides l.elements
