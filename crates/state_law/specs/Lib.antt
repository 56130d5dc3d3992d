-- What the laws of a domain's state speak of.
--
-- Free       edges of a list (`IsIn`), lists no two edges of which stand in a relation (`AreFreeOf`), and two relations: edges that are alike (`AreAlike`), edges that tangle (`DoEdgesTangle`).
-- Net        how often an edge stands in a list, less its reverse (`net`).
-- Gluing     the front after an element is glued (`glue`), and when an element may be glued (`MayBeGlued`); one after another (`glue_all`, `MayAllBeGlued`).
-- State      the state of a domain by numbers (`State`), and gluing by numbers (`glued`).
-- Region     a front by itself (`IsRegion`), places and ground that take no further element (`IsSettled`, `AreSpent`), and all of this for a front and its elements (`IsHeld`).
-- Kept       what a run keeps of its front and elements, beside the boundary (`IsKept`).
-- Saved      corners of polygons (`IsCorner`), elements of a list (`IsElement`), front points (`IsFrontPoint`), places that are no end of an edge (`IsNoEnd`), boxes (`AreInBox`).
-- Conforming a domain's boundary in pieces (`IsBoundary`), states in which no point hangs (`HasNoHanging`), neighbours (`AreNeighbours`), all that a run keeps (`IsSound`).
-- Refusal    attempts at a base line and class, candidates, and why a pair of line and class is refused (`IsRefused`).
-- Reach      fronts that are alike in a box (`AreAlikeIn`), attempts within it (`IsWithinReach`).
-- Worked     a small state on which the definitions are computed.
pub mod Free
pub mod Net
pub mod Gluing
pub mod Kept
pub mod Saved
pub mod Refusal
pub mod Conforming
pub mod Region
pub mod State
pub mod Reach
pub mod Worked
