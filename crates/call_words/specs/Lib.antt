-- how words after a verb are read, and what they ask for
pub mod CommandLine
pub mod Commands
-- the same as a function on the words, and what `clap` is asked for
pub mod WordsRead
pub mod Asks
pub mod Forms
-- the first word that can't stand where it stands
pub mod Begun
pub mod Walks
