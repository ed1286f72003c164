mod Asks
mod Ties
