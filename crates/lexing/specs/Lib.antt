pub mod Laws
pub mod Lexing
