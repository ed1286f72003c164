pub mod Program
pub mod Cycle
