-- Meets: boxes that meet, and boxes that lie in each other. Lists: what insertions, removals and walks do to lists of entries.
-- Parts: what is known of a part's entries.
pub mod Meets
pub mod Lists
pub mod Parts
-- Takings: what taking an entry out of one of two sides leaves.
pub mod Takings
-- Keys: what is held under the keys of entries.
pub mod Keys
-- WalkLaws: the laws of walks.
pub mod WalkLaws
