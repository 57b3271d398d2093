pub mod Whole
pub mod Judging
pub mod Turns
pub mod Runs
