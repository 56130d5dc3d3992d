-- What this crate's words mean.
-- Boxes: boxes that meet, and that lie in each other. Entries: lists of entries, and walks over them. Part: a part of a tree. Kept: what a tree keeps beside it. Walks: walks over hits.
pub mod Boxes
pub mod Entries
pub mod Part
pub mod Falls
pub mod Kept
pub mod Walks
