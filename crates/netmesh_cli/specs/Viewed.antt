-- What `view` writes of a state.
--
-- state_row   the line of a state
-- view_text   that line, and a line for each front line
use Rattle.std.specs.Prelude.{ℕ, List, ◌++◌, length, codes}
use Rattle.std.specs.List.{flat_map}
use Rattle.std.specs.Fmt.{decimal}
use Rattle.run_log.specs.Log.{front_row}
use Rattle.run_log.specs.declared.state.View.{View}

-- the domain, the step, and how many front lines and elements there are
abbrev pub state_row : ℕ → ℕ → View → List ℕ
state_row domain step view = codes "domain " ++ decimal domain
    ++ codes " step " ++ decimal step
    ++ codes " front " ++ decimal (length view.front)
    ++ codes " elements " ++ decimal view.elements
    ++ codes "\n"

-- the state of a domain after a step, and its front lines
abbrev pub view_text : ℕ → ℕ → View → List ℕ
view_text domain step view = state_row domain step view ++ flat_map front_row view.front
