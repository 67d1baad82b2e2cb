pub mod Solutions
pub mod Held
