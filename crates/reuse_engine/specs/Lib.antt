pub mod Engine
pub mod Counting
