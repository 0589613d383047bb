pub mod Insertion
pub mod Misses
pub mod Trails
pub mod Calls
pub mod Refusals
pub mod Ends
