mod Passes
pub mod Tests
pub mod Sound
mod Verdict
