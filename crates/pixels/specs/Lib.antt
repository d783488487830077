pub mod Runs
pub mod Pictures
pub mod Colours
