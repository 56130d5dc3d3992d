-- The proof that the generated geometry is accepted, in the order in which the files stand on each other; each is headed by what
-- it proves.
pub mod Tables
pub mod Coordinates
pub mod OnGrid
pub mod LatticeEdges
pub mod Apart
pub mod Picked
pub mod Borders
pub mod Counted
pub mod Accepted
pub mod Filed
-- The twelve rules.
pub mod TwelveRules
