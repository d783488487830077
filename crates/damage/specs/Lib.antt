pub mod Encode
pub mod Cover
pub mod Lines
pub mod Hurts
pub mod Cells
pub mod Scenes
pub mod Step
pub mod Screen
