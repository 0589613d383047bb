pub mod Calls
pub mod Fields
pub mod Traces
pub mod HitShares
pub mod Examples
