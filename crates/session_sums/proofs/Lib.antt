pub mod Tests
pub mod Tree
pub mod Walks
pub mod Filled
