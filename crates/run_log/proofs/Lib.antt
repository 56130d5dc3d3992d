-- The proofs of reading and viewing, by theme. Each file says at its head what it proves.
--
-- Forms: what reading by a form gives is what has the form, and a refusal is where a text stops. So a call that answers what reading
-- gives answers by the grammar. A refusal names the first word with which no log goes on.
pub mod Forms
pub mod Answered
pub mod First
-- How the calls read: lists item by item, lines part by part, domain numbers rise.
pub mod Loops
pub mod Steps
pub mod Rising
-- The log that is written of a run is read again: its words, and its lines.
pub mod LineWords
pub mod Again
-- Viewing: the table of lines, gluing sides one after another, the run that is found is the log's; lines rise, and the least leaves.
pub mod Kept
pub mod Sides
pub mod Viewed
pub mod Least
