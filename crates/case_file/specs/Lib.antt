pub mod Kinds
pub mod Numbers
pub mod Doubles
pub mod Elements
pub mod Headers
pub mod Cases
pub mod Contents
