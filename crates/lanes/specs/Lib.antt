pub mod Lanes
pub mod Plans
pub mod Turns
