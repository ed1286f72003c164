pub mod Called
pub mod Choosing
