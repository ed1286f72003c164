pub mod Choosing
pub mod Ending
