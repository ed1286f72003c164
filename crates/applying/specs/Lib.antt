pub mod Application
pub mod Halves
