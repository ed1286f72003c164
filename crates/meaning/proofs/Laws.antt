-- Laws of the words that definitions are written in, and those of applying that NoLooseEdge rests on: what proofs use instead of
-- unfolding one.
pub mod Slots
pub mod Applying
pub mod Room
pub mod Attached
