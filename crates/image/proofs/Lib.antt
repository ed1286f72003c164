mod Insides
mod Rows
mod Walks
