-- Laws of the words that definitions are written in, and those of applying that NoLooseEdge rests on: what proofs use instead of
-- unfolding one.
pub mod Tests
pub mod Every
pub mod Loops
pub mod Checks
pub mod Promises
pub mod Slots
pub mod Applying
pub mod Interface
pub mod Room
pub mod Attached
