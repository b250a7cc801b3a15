pub mod Blocks
pub mod Counts
pub mod History
