mod BackLaws
mod BaseLaws
mod BlockLaws
mod ByteLaws
mod EntryLaws
pub mod FileLaws
mod FillLaws
mod LaidLaws
mod PickLaws
mod PlaceLaws
mod ReadingLaws
mod ReadyLaws
mod RecordLaws
pub mod Decided
pub mod Called
pub mod ReadBack
pub mod ReadCalls
pub mod InfoTells
pub mod Sound
pub mod Lowest
pub mod Refused
