pub mod Codes
pub mod Widths
pub mod Refusals
pub mod Words
pub mod Answers
pub mod Made
pub mod Windows
