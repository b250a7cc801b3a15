pub mod PartLaws
pub mod SliceLaws
pub mod ReadLaws
pub mod Viewed
pub mod PartsViewed
pub mod Decided
pub mod Lowest
pub mod Refused
