pub mod Graph
pub mod Naming
pub mod Unfolding
