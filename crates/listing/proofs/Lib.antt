pub mod Changes
pub mod Leaves
pub mod Kept
pub mod Searched
