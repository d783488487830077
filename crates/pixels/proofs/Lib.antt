pub mod Runs
pub mod Rows
mod Copies
mod Spans
pub mod Laws
