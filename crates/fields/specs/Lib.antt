pub mod Fields
pub mod Spans
pub mod Answers
pub mod Flags
pub mod Runs
