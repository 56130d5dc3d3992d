-- what words ask for: one task or one fault, for those who go on with it
pub mod Exclusion
-- in which words one is at fault by its number or its name
pub mod Shown
-- ---- inner

-- a list whose first item is known
pub mod Walking
-- reading from left to right is what `Reads` says
pub mod WordsRead
pub mod Calling
-- what `clap` gives is what is read from left to right
pub mod Uses
pub mod Tables
pub mod ByClap
pub mod FormReads
pub mod FormPlaces
-- words are read on word by word
pub mod Halves
pub mod Options
pub mod FirstOff
pub mod Misfits
pub mod AtFault
