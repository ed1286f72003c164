mod Loops
mod Rows
mod Slots
mod Written
