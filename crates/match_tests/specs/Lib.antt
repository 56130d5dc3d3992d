-- Polygons: corners of which a front may be opened.
pub mod Polygons
