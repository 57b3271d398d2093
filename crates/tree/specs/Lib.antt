pub mod Names
pub mod Lists
pub mod Records
pub mod Trees
pub mod Stores
pub mod Calls
pub mod Walk
