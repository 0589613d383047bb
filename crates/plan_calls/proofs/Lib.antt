mod Examples
pub mod Groupings
pub mod Spans
pub mod Levels
pub mod Standing
pub mod Carrying
