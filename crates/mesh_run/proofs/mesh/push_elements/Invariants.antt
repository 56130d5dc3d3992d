use Rattle.std.proofs.Common.{◌≡◌, ◌++◌, map, take}
use Rattle.std.specs.List.{flat_map}
use Rattle.mesh_run.specs.Mesh.{mesh_element}
use Rattle.mesh_run.proofs.mesh.push_elements.Given as goal

abbrev pub invariant-loop-application : goal.invariant-loop-application
invariant-loop-application l =
    l.elements.items ≡ l.initial.elements.items ++ flat_map (λ a. map (mesh_element l.mesh l.before l.run) a.elements) (take l.application-index l.run.applications)
