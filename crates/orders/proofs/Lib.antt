pub mod Bests
pub mod Sorting
pub mod Drawing
pub mod Taken
pub mod Frees
pub mod Turns
pub mod Seated
