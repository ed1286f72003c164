mod Checks
mod Labels
mod Slots
mod Free
mod Filling
