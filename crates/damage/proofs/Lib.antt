mod Inserting
mod Deciding
pub mod Left
pub mod Area
mod Dots
mod Seeing
mod Cutting
mod Gridding
pub mod Decoding
mod Walking
mod Drawing
pub mod Showing
