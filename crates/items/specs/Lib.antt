pub mod Items
pub mod Again
