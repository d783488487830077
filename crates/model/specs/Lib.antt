pub mod Basics
pub mod Desk
pub mod Promise
pub mod Sound
pub mod System
pub mod Kept
pub mod Grid
pub mod Worked
