pub mod Laid
pub mod Enough
