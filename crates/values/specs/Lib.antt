pub mod Values
pub mod Laws
pub mod Right
pub mod Items
pub mod Zeros
pub mod Joining
