pub mod Split
pub mod Tables
pub mod Cuts
pub mod Calls
pub mod Refusals
pub mod Stepwise
