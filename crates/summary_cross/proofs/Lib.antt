pub mod Turns
pub mod Counting
pub mod Joined
