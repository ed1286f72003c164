pub mod Asked
pub mod Heights
