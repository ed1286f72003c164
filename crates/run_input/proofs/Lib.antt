mod Fields
mod Inputs
