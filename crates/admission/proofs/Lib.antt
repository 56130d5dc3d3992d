-- Boxes: the least and the greatest of two numbers of the grid, and a box made larger.
pub mod Spans
pub mod Held
-- The front line by line, and its winding number summed.
pub mod Ahead
pub mod NearWalk
pub mod Sums
pub mod Casts
-- The least numbers of what hinders an element, among near lines and among all.
pub mod Least
pub mod Transfer
-- The verdict on one element.
pub mod Compared
pub mod Verdicts
-- An element glued: to a list of lines, to the lines near, to all that is kept of a state.
pub mod Sides
pub mod Gluing
pub mod Views
-- Elements one after another.
pub mod Order
pub mod Turns
-- What an answer says.
pub mod Answered
pub mod OneRefusal
-- For tests.
pub mod Worked
