pub mod NoLooseEdge
pub mod Laws
