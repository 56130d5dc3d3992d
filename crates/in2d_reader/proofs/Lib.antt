-- ---- the grammar and the reading

-- numbers of points that are known
pub mod Known
-- what is read to the end is derived
pub mod Forward
-- what is derived is read, where there is room for its rows
pub mod Again
-- there is room exactly within the limits
pub mod Limits
-- ---- refusals

-- from each spot a text can go on to its end
pub mod Completed
-- what may come at a spot, and of what kind a refusal there is
pub mod Needs
-- what is returned, against the grammar
pub mod Refused
-- a text has one refusal
pub mod OneRefusal
-- ---- normal texts

-- lines of words are read as these words
pub mod Lines
-- words of several lines
pub mod Texts
-- a normal text writes the geometry that was printed
pub mod Printed
-- what is read can be printed
pub mod Printable
