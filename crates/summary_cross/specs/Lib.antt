pub mod Crossing
pub mod Joining
