pub mod Instances
pub mod Calls
pub mod Held
pub mod Histories
pub mod Law
