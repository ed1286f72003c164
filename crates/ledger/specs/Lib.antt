pub mod Running
pub mod Steps
pub mod Changes
pub mod Whole
pub mod Rooms
pub mod Applications
