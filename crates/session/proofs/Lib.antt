pub mod Corresponds
pub mod Ways
pub mod Parts
