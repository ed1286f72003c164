-- Laws of tables and hosts at other counts of slots (ResizedHosts), of carrying over any two layouts (Carried), of a run with more room at
-- another layout (LargerRuns) and on carried tables (CarriedRuns); what they say of the layouts of four and of eight atoms (Widening) and
-- of those of the small core and of document 01 (Packing); and computed cases of both (ExampleTables, WideningExamples, PackingExamples).
pub mod ResizedHosts
pub mod Carried
pub mod LargerRuns
pub mod CarriedRuns
pub mod Packing
pub mod ExampleTables
pub mod WideningExamples
pub mod PackingExamples
