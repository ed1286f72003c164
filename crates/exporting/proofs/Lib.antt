mod Spelled
mod Rows
mod Bytes
mod Words
mod Walks
mod Slots
mod Hosts
mod Checks
