pub mod Firsts
pub mod Places
pub mod Refusals
pub mod Uptos
