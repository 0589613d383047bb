pub mod Sessions
pub mod Reads
pub mod Walks
pub mod Looks
pub mod Summaries
