-- What this crate's words mean, in the order of standing on each other.
-- Fractions: exact numbers, and the whole number nearest to one. Frame: the local frame of a base line, and local places.
-- Places: where a rule puts its new points and the corners of its zone. Sums: the same sums as numerators over one denominator.
-- Inert: why a rule never applies. Reach: how far from its line a rule reaches. Compiled: what is kept of a rule.
pub mod Fractions
pub mod Frame
pub mod Places
pub mod Sums
pub mod Inert
pub mod Reach
pub mod Compiled
