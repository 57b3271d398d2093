pub mod Language
pub mod Fitting
