pub mod Items
pub mod Zips
pub mod RowSteps
pub mod SweepSteps
