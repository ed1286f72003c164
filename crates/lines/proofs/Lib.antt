mod Lines
mod Walks
