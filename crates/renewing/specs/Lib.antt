-- The old form and its rewriting (OldForm), and that a rewritten image means what it meant (Renewed).
pub mod OldForm
pub mod Written
pub mod Elements
pub mod Commands
pub mod Depth
pub mod Renewed
pub mod Examples
