mod Bytes
mod Comments
mod Comparing
mod Names
mod Places
mod Words
