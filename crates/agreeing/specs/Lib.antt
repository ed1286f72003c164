-- What is placed, and laws of trials; values and labels that agree; candidates.
pub mod Placed
pub mod Agreeing
pub mod Candidates
pub mod Trials
pub mod Assigned
pub mod Lent
