pub mod Testing
pub mod Lent
