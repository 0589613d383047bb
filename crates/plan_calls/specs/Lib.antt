pub mod Calls
pub mod Groupings
pub mod Standing
