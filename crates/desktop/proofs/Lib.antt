pub mod Held
pub mod Carrying
pub mod Arranging
mod Making
pub mod Painted
mod Lent
mod Hearing
mod Looking
