pub mod ViewLaws
pub mod LoadLaws
pub mod Lowest
pub mod FlagLaws
pub mod RunLaws
pub mod WriteLaws
