pub mod Failing
pub mod Renumbered
pub mod Layouts
pub mod Posed
pub mod Held
pub mod Prepared
