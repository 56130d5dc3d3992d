-- The proofs, by theme. Public are what crates above may cite where no law says it.
--
-- ---- words in the spaced style

-- the walk over a text, byte by byte
pub mod Walk
-- the words that the walk gives are those of the text's parts
pub mod Laws
-- bytes that are neither white nor begin a comment make a word
pub mod PlainWords
-- the words of a text in which each word has one white byte beside it
pub mod Spelled
-- where a run of bytes stops
pub mod Prefixes
-- ---- tokens

-- the walk over a text, token by token
pub mod TokenWalk
-- each token is found over whatever follows it
pub mod TokenLaws
-- what is found is the longest token
pub mod LongestToken
-- the tokens that the walk gives are those of the text's parts
pub mod TokenReading
-- ---- numbers

-- runs of digits and the room that their values take
pub mod Runs
-- a decimal is what its parts spell
pub mod DecimalLaws
-- a number is written in digits, and read as the number that it was
pub mod NumberTexts
-- ---- lists

-- two places in one list
pub mod Places
