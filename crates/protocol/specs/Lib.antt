pub mod Added
pub mod Fields
pub mod Formats
pub mod Meaning
pub mod Laws
pub mod Fitting
pub mod Numbers
pub mod Next
