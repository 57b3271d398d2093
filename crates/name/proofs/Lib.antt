pub mod Judged
pub mod Fronts
