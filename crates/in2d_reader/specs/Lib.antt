pub mod Words
pub mod Refusals
pub mod Steps
pub mod Drafts
pub mod Grammar
pub mod Normal
