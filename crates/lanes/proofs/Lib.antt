pub mod ShapeLaws
pub mod LaneLaws
pub mod TurnLaws
