pub mod Traces
pub mod Replays
