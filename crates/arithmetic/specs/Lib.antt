pub mod Meanings
pub mod Kinds
pub mod Admitting
pub mod Sweeps
pub mod Lent
