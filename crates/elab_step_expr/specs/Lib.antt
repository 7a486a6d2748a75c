pub mod Leaves
pub mod Nodes
pub mod Indexed
pub mod Terms
pub mod Vectors
