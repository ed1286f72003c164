pub mod Plans
pub mod Links
pub mod Completing
pub mod Steps
pub mod Falls
pub mod Odometer
pub mod Storing
