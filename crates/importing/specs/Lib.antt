pub mod Names
pub mod Tables
pub mod Graphs
