mod Places
pub mod Lines
