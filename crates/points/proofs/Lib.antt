pub mod Uptos
pub mod Counts
pub mod Turns
pub mod Runs
pub mod History
pub mod Sweeps
pub mod Schedules
pub mod Waits
