-- What the proofs of the loops share.
pub mod Loops
