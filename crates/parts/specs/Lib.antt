pub mod Series
pub mod Rows
pub mod Images
pub mod Reading
pub mod Elements
pub mod Walks
pub mod Walked
