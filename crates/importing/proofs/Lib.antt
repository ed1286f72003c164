mod Lookup
mod Places
mod Ends
mod Held
mod Slots
mod Filling
mod Checks
mod Imports
