-- the word of a call that is shown
pub mod CallWords
