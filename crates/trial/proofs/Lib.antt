pub mod Label
pub mod LabelPaths
pub mod Joined
pub mod Tried
pub mod Fields
