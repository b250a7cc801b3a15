pub mod Streams
pub mod Answers
