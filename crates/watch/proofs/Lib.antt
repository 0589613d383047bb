pub mod Soundness
pub mod Refusals
pub mod Watches
pub mod HitShares
