pub mod Answering
pub mod Putting
pub mod Walking
