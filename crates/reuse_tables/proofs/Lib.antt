pub mod Lookups
pub mod Counting
mod Besides
