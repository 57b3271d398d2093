pub mod Mapped
pub mod Rows
