-- ---- the functions of the reader

-- whole numbers
pub mod Words
-- grid steps of decimals
pub mod Divided
-- reading a form, part by part
pub mod Forms
-- point numbers, walked over item by item
pub mod Walked
-- ---- what is read is what the grammar says

-- what a word gives where something is needed
pub mod Asks
-- where words lead in a form
pub mod Leads
-- the words that lead through the form of a mesh's text say the mesh
pub mod Meshes
-- each front of a text goes on to a text
pub mod Texts
-- what is read to its end is a text, and each text is read to its end
pub mod Derived
-- ---- what is refused

-- the first point number that names no point
pub mod PointNumbers
-- each refusal of the grammar is what reading gives, and what is refused is refused so
pub mod Refused
pub mod Told
-- ---- what is written is read again

-- the text of a number, and of a coordinate
pub mod Printed
-- the text of a mesh
pub mod Again
