pub mod Face
pub mod Parts
