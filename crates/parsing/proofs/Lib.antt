mod Tokens
mod Digits
mod Atoms
mod Parts
mod Lists
mod Marks
