-- When elements may be glued to a front one after another, and why they may not.
-- Admission  elements one after another (`entered`, `glued_on`, `MayFollow`), the conditions of gluing by name, and the refusals (`IsRefusal`).
-- Triangles  an element by its three corners, front lines with their places, how a line hinders an element (`IsMet`, `IsOnSide`, `IsCornerOn`, `IsBackwards`), least numbers (`IsLeast`).
-- Around     the lines of a state near a box (`lines_near`), line by line (`ahead`), and a side glued to them (`glue_drawn`).
-- Kept       what is kept of a state while elements are admitted (`IsViewOf`).
pub mod Triangles
pub mod Around
pub mod Admission
pub mod Kept
