pub mod Windows
pub mod Answers
pub mod Marks
