pub mod Starred
pub mod BothSides
pub mod EntriesKept
pub mod ThereAndBack
