pub mod Rows
pub mod Labels
pub mod Tries
pub mod Refusals
pub mod Lines
pub mod Replies
pub mod Examples
