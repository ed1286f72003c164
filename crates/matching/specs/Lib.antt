pub mod Next
pub mod Values
pub mod Lent
