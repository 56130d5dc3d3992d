-- What this crate's words mean.
-- Log: the text of a run's log. Summary: the line that sums a run up.
-- Form: what texts are made of, word by word. Numbers: the words of a log. Grammar: which texts are logs, and where others stop.
-- Ranges: which logs are read again as they are written.
-- View: a domain's front after some of its applications.
-- Reading: reading by a form, which only proofs and the clauses of inner calls name.
pub mod Log
pub mod Summary
pub mod Form
pub mod Numbers
pub mod Grammar
pub mod Ranges
pub mod View
pub mod Reading
pub mod Table
