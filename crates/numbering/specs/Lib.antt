pub mod Order
pub mod Refusals
pub mod Laws
pub mod Known
pub mod Sorting
