pub mod Filling
pub mod Calls
