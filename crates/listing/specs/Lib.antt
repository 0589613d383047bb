pub mod Listers
pub mod Runs
