mod Commanding
mod Demands
mod Parts
mod Putting
mod Raising
