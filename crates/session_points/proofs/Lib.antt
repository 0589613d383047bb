mod Places
pub mod Ups
pub mod Changing
pub mod Marking
mod Spreads
pub mod Downs
mod Fronts
