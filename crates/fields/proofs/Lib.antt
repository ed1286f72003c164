-- What the proofs of loops over fields share, in the crates that read them.
pub mod Finding
