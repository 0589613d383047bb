pub mod Tallies
pub mod Pieces
pub mod Listings
pub mod Feeding
pub mod Pages
