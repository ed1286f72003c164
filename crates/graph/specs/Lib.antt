pub mod Graph
pub mod Hosts
