pub mod Reaching
pub mod Words
pub mod Acting
pub mod Growing
pub mod Asking
pub mod Lent
pub mod Lawful
pub mod Playing
