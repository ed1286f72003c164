-- When two programs differ in wrapping alone (Wrapping), when one is the other with its calls written out (WrittenOut, and RawWritten for
-- what is read from images), the commands that a run enters (Entering), and what is said of two runs (Agreement); that such programs leave
-- the same but for the steps, and that the one ends if the other does (Runs, WrittenRuns); the laws that follow at any place of a program
-- (Regrouping), and computed cases (Examples).
pub mod Wrapping
pub mod WrittenOut
pub mod RawWritten
pub mod Entering
pub mod Forgetting
pub mod Places
pub mod Rewrapping
pub mod Coming
pub mod Writing
pub mod Fuelling
pub mod Tracing
pub mod Agreement
pub mod Running
pub mod Regrouping
pub mod Examples
