pub mod Respaced
