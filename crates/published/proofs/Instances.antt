-- Programs that can come to one thing only, from the bytes of their images, each on the graphs that have an invariant of its own; why
-- an invariant is needed; a program whose rules match where those of another do; and a rule in both modes. IsTree, RootedCycle and
-- CycleByDegrees call procedures. Rests on OnlyOutcome and Degrees.
pub mod RedRoot
pub mod TwoRoots
pub mod Walk
pub mod IsDiscrete
pub mod IsDiscreteLabelled
pub mod CaseP
pub mod RootedCycle
pub mod CycleByDegrees
pub mod Chains
pub mod IsTree
pub mod TransitiveClosure
pub mod BothModes
