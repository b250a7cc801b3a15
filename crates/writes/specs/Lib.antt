pub mod Flips
pub mod Writes
