pub mod Boxes
pub mod Meaning
