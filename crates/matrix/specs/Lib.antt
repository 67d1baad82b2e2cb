pub mod Sizes
pub mod Tables
pub mod Patterns
pub mod Lent
