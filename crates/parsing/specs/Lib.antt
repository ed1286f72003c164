pub mod Reading
pub mod Integers
pub mod Labels
pub mod Laws
pub mod Rows
