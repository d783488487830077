pub mod Adding
pub mod Digits
pub mod EventLaws
mod FieldFaults
mod FieldLaws
pub mod Rows
mod Sequences
mod Signs
mod Tests
pub mod WordLaws
pub mod Fitting
