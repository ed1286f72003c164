-- What the proofs share: conditions case by case, the tests that a placement decides, and what is left of a likely slot's test.
mod Conditions
mod Decisions
mod Rest
