pub mod Scanning
pub mod Entries
pub mod Laying
pub mod Choosing
pub mod Searching
