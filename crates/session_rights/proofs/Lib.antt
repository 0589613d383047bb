pub mod Levels
pub mod Rights
pub mod Totals
pub mod Changes
pub mod Trees
