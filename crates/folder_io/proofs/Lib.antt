-- Lemmas on the table of files, and on counts of failures for whole runs of calls.
pub mod Tables
pub mod Counts
