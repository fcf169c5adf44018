pub mod Whole
pub mod Fields
pub mod Answers
pub mod Lawfully
