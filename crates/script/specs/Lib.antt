pub mod Kinds
pub mod Numerals
pub mod Putting
pub mod Rows
pub mod Sentences
pub mod Tables
pub mod Texts
