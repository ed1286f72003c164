pub mod Listing
pub mod CaseP
pub mod Rooms
