use Rattle.std.proofs.Common.{◌≡◌, ◌++◌, map, take}
use Rattle.mesh_run.specs.Mesh.{mesh_element}
use Rattle.mesh_run.proofs.mesh.push_application.Given as goal

abbrev pub invariant-loop-element : goal.invariant-loop-element
invariant-loop-element l = l.elements.items ≡ l.initial.elements.items ++ map (mesh_element l.mesh l.before l.run) (take l.element-index l.made)
