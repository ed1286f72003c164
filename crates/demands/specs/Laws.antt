-- Laws behind the demands: what fuel and room more change of a run, and that the meaning follows the rules of inference.
pub mod Hindrance
pub mod Allowance
pub mod Shortage
pub mod Alike
pub mod LargerLabels
pub mod Further
pub mod FurtherCommands
pub mod FurtherTables
pub mod Written
