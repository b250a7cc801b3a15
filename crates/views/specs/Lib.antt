pub mod Views
pub mod Answers
