pub mod Reasons
pub mod Answers
