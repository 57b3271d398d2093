pub mod Dropping
pub mod Downwards
pub mod Changing
pub mod Forgotten
