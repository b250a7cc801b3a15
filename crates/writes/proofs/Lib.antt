pub mod LetterLaws
pub mod ReverseLaws
pub mod TableLaws
pub mod Viewed
pub mod Decided
pub mod Lowest
pub mod Refused
