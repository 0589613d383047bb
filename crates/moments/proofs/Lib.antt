pub mod Places
pub mod Calls
pub mod Refusals
