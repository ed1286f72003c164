pub mod Lines
pub mod Rooms
pub mod Tables
