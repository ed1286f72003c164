mod Records
mod Restored
