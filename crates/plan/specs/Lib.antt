pub mod Plan
pub mod Tests
pub mod Places
