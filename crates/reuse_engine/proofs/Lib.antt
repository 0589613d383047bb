pub mod Passes
pub mod Engine
pub mod Runs
pub mod Traces
pub mod Crossing
