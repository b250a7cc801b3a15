mod RunLaws
mod SetLaws
pub mod StepLaws
pub mod Decided
pub mod Called
pub mod Exchanged
pub mod Viewed
pub mod WrittenFile
pub mod Writable
pub mod WriteCalls
pub mod Lowest
pub mod Refused
