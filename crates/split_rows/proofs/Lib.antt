pub mod Counting
pub mod Lowest
pub mod Filling
pub mod Entering
