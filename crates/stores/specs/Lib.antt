pub mod Stores
pub mod History
pub mod Answers
pub mod Changes
