pub mod Tiles
pub mod Reports
