pub mod Slots
pub mod States
pub mod Held
pub mod Parts
pub mod Laid
pub mod Comparing
