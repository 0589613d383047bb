pub mod Sound
pub mod Taken
pub mod Looked
pub mod Stands
pub mod Read
pub mod Looks
pub mod Summaries
