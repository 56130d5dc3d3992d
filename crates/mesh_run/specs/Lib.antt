-- What this crate's words mean.
-- Boundary: the edges with a domain on their left. Numbering: points numbered by first occurrence. Opening: the points and lines with which a domain begins.
-- Whole: the run of all domains. Mesh: the mesh of a whole run.
pub mod Boundary
pub mod Numbering
pub mod Opening
pub mod Whole
pub mod Mesh
-- Steps: which application comes next, and the states one after another. Runs: the run of a domain and of all domains by rules.
-- Sum: what is true after each application.
pub mod Steps
pub mod Runs
-- Reached: what a run keeps of its state. RunState: a run of a domain while it goes on.
pub mod Reached
pub mod RunState
-- Worklist: the classes and lines that are to be tried. Remembered: refusals that a run remembers.
pub mod Worklist
pub mod Remembered
-- Kept: refused pairs that are kept with their notes.
pub mod Kept
-- Trials: how many trials a run makes, and how many are due.
pub mod Trials
pub mod Sum
-- Conform: no side is used twice, and no point hangs, in the states of all domains.
pub mod Conform
