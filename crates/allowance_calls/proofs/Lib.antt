pub mod Smallest
pub mod Search
pub mod Calls
pub mod Refusals
pub mod Examples
