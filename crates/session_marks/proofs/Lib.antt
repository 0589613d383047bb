pub mod Marks
pub mod Rows
pub mod Passes
pub mod Search
pub mod Looked
