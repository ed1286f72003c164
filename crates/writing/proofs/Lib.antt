mod Bytes
mod Decimals
mod Words
