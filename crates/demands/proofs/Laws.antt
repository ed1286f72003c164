-- Laws behind the demands: what fuel and room more change of a run, and that the meaning follows the rules of inference.
pub mod Inference
