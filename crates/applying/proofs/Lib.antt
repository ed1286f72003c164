mod Checks
mod Parts
mod Answers
