pub mod Slots
pub mod Frees
pub mod Areas
pub mod Orders
pub mod Rooms
pub mod Fronts
pub mod Pictures
pub mod Packing
mod Changed
pub mod Packed
