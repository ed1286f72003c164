pub mod Carried
pub mod LargerRuns
pub mod CarriedRuns
pub mod Widening
pub mod Packing
pub mod WideningExamples
pub mod PackingExamples
