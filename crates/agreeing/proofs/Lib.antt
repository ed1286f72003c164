-- What the proofs share: where values lie in labels, the values of a trial, labels compared, and elements case by case.
mod Parts
mod Values
mod Agreeing
mod Elements
