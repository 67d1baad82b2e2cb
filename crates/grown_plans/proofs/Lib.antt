pub mod Tables
pub mod Layers
pub mod Renumbered
pub mod Opens
