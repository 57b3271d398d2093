pub mod Fuel
pub mod Climbs
pub mod Queries
pub mod FoundSoFar
pub mod Buffers
pub mod Chosen
pub mod Words
pub mod Tagged
