pub mod Tracing
pub mod Calls
