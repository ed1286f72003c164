pub mod Words
pub mod Spacing
pub mod Integers
pub mod Grammar
pub mod Text
pub mod Breaks
pub mod Closed
pub mod Formed
