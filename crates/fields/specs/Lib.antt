pub mod Image
pub mod Parsed
pub mod Fields
pub mod Laws
