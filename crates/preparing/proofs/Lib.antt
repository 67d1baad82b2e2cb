pub mod Tables
pub mod Failures
pub mod Verdicts
pub mod Stepwise
