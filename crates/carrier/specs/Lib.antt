pub mod Carried
pub mod Rooms
pub mod Finding
pub mod Laws
pub mod Back
