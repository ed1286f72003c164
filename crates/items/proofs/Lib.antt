-- Laws that several proofs cite.
mod Single
mod Fitting
mod Rowing
mod Whole
