mod Inputs
mod Printing
