pub mod Points
pub mod Runs
pub mod Sweeps
pub mod Schedules
pub mod Laws
