pub mod Seeking
pub mod Holding
pub mod Following
pub mod Inserting
