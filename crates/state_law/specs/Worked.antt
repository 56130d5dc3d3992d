-- A small state on which the definitions are computed: a triangle's three lines, and a listed place in the middle of the second.
use Rattle.std.specs.Prelude.{ℕ, [], ◌∷◌, pos}
use Rattle.grid_geom.specs.declared.Point.{Point}
use Rattle.state_law.specs.State.{State}

abbrev pub place : ℕ → ℕ → Point
place x y = record { x = pos x; y = pos y }

abbrev pub worked : State
worked = record {
  points = place 0 0 ∷ place 640000 0 ∷ place 0 640000 ∷ place 320000 320000 ∷ [];
  front = (1, 1, 2) ∷ (2, 2, 3) ∷ (3, 3, 1) ∷ [];
  next = 4;
  elements = [];
}
