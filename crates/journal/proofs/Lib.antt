mod Records
pub mod Restores
