pub mod Bigs
pub mod Whole
