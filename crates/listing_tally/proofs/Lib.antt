pub mod Answers
pub mod TallyRows
pub mod Phases
