pub mod Climbs
pub mod Buffers
pub mod Hits
pub mod Choices
pub mod Changes
