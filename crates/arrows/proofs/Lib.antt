pub mod Widened
pub mod Cuts
