pub mod Names
pub mod Parts
pub mod Refusals
