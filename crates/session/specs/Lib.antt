pub mod Sessions
pub mod Reads
pub mod Steps
