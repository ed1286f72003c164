-- What makes rule sets steady, by families: rules that only test, left sides that are determined from the root, matches that a
-- symmetry takes to each other; and invariants that rules keep. Rests on Steady.
pub mod Whence
pub mod OneRoot
pub mod OneOut
pub mod Determined
pub mod Unchanged
pub mod Symmetric
