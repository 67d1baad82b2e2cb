pub mod Growing
pub mod Greatest
pub mod Verdicts
pub mod Directions
pub mod Passes
pub mod Marks
pub mod Sweeps
pub mod Known
