pub mod Words
pub mod Lines
pub mod Text
pub mod Laws
