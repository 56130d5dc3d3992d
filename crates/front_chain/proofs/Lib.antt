-- The front's proofs, by theme, in the order in which they stand on each other. Each file says at its head what it proves.
--
-- The tables: points by their places, lines by their numbers, that they go on agreeing.
pub mod Places
pub mod Lines
pub mod Tabled
-- The tree: entries counted by line and by key, and that they stay the boxes of the lines.
pub mod Entries
pub mod Boxed
-- What is asked of them: the least line above a number, whether a line leaves a point, how many lines there are, front points.
pub mod Above
pub mod Neighbours
pub mod Numbered
pub mod Walks
pub mod NearLines
pub mod StillNear
pub mod Ends
-- Gluing: one side, the sides of an element one after another.
pub mod Sides
pub mod Joins
-- The opening, and what is true of every front.
pub mod Openings
pub mod Kept
-- A triangle and a square with a hole, so that the conditions can be met.
pub mod Worked
pub mod Ring
