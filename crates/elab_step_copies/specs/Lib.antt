pub mod Copies
pub mod Walks
