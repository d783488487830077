pub mod Gaps
pub mod Does
pub mod Windows
pub mod Painting
pub mod Lent
pub mod Person
