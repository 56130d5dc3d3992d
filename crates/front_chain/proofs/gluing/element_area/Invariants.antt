use Rattle.std.proofs.Common.{◌≡◌, length, take}
use Rattle.state_law.specs.State.{corners_of}
use Rattle.front_chain.proofs.gluing.element_area.Given as goal

abbrev pub invariant-loop-place : goal.invariant-loop-place
invariant-loop-place l = (take l.place l.places ≡ corners_of l.chain.points (take l.place l.corners)) × (length l.places ≡ 4)
