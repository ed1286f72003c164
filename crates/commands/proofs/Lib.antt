mod Putting
mod States
mod Parts
mod Turns
