-- Lemmas, by theme.
--
-- what is read of a file, which other answer it shuts out, and the first file that isn't accepted
pub mod Refusals
pub mod Readable
pub mod Excluded
pub mod Accepting
pub mod Rejecting
pub mod Firsts
pub mod States
pub mod Meshes
-- what is made: areas, comments, and the run of a geometry
pub mod Sweeps
pub mod Comments
pub mod Works
pub mod Ends
pub mod Making
-- what is told and put, how far a call came, and what the top call says of it
pub mod Tolds
pub mod Puts
pub mod Courses
pub mod Tops
pub mod Exactly
pub mod Askings
