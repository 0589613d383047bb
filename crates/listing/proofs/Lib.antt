pub mod Rows
pub mod Kept
pub mod Soundness
pub mod Listers
pub mod Feeds
pub mod Finishing
pub mod Cuttings
