pub mod Padding
pub mod Puts
pub mod Filling
pub mod Turning
