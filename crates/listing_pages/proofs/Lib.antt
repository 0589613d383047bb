pub mod Pieces
pub mod Rows
