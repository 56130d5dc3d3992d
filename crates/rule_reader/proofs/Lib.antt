-- ---- what is read is what the grammar says

-- signs and decimals
pub mod NumberLemmas
-- the words of a text, taken from a scanner one after another
pub mod TokenLists
-- reading one after another, as the loops do
pub mod Loops
-- readers that read just what a language says; then of words, of lists, of many entries, of sections and of a file
pub mod Good
pub mod GoodEntries
pub mod GoodLists
pub mod GoodMany
pub mod GoodSections
pub mod GoodFile
-- ---- what is refused

-- reading within any limits, whatever the indices
pub mod Within
-- where a reader fails: how the words before go on, and that no text goes on with the word there; then of words
-- and entries, of many entries, sections and rules
pub mod Told
pub mod ToldEntries
pub mod ToldMany
-- which rules are read before a fault
pub mod RulesPassed
-- the refusal of a text is the first of its words at which no text goes on
pub mod Refused
-- a text has one refusal
pub mod OneRefusal
-- ---- the graph of a rule

-- the labels of a rule's points count the parts of its graph
pub mod Starts
-- the lines of a rule whose indices name points go from point to point
pub mod LineEnds
-- ---- normal texts

-- the words of a text, without their places
pub mod Lexing
-- a printed number is read as the number that it was
pub mod PrintedNumbers
-- texts whose words are what the grammar says; entries and rules that are printed
pub mod Prints
pub mod PrintedEntries
pub mod PrintedRules
-- what is read can be printed
pub mod Printable
