pub mod Doomed
pub mod Forgetting
