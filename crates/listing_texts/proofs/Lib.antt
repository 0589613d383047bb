pub mod Tallies
pub mod Refining
pub mod Unnumbered
pub mod Listings
pub mod Examples
pub mod RowLaws
pub mod Lengths
