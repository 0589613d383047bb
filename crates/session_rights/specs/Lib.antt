pub mod Rights
pub mod Ways
