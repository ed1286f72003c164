mod Items
mod Loops
