pub mod Kept
pub mod Fed
