-- The front of a domain.
-- Front   what a contract sees (`FrontState`), what is asked of it (`line_at`, `number_between`, `number_above`, `number_of`, `is_end`), near lines and the walk (`is_near`, `first_in_walk`, `next_in_walk`),
--         what is true of every front (`IsFrontState`), its opening (`IsOpening`), what may be glued (`IsGluable`).
-- Gluable sides that may be glued one after another (`CanJoin`), for proofs.
-- Worked  a triangle, and a square with a hole, for tests.
-- Tables  the tables behind it (`AreTables`), for proofs.
-- Links   the lines in order of making, each with its neighbours (`AreLinked`), for proofs.
-- Boxes   the boxes of the lines as entries of a tree (`AreBoxed`), for proofs.
pub mod Front
pub mod Tables
pub mod Links
pub mod Gluable
pub mod Worked
pub mod Boxes
