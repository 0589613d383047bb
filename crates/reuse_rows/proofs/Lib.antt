pub mod Slices
pub mod Totals
pub mod Parts
