pub mod Graphs
pub mod Searching
pub mod Walks
pub mod Search
pub mod Answer
