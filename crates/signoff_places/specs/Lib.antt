pub mod Lines
pub mod Tokens
pub mod Paths
pub mod Titles
pub mod Sets
pub mod Modules
