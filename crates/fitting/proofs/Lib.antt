-- What the proofs share: edges that join, candidates by all but label and tests, and edges that dangle.
mod Joining
mod Candidates
mod Dangling
