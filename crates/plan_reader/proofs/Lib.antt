mod Ways
mod Whole
mod Examples
pub mod Numbered
