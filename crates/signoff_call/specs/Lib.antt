pub mod Answers
pub mod Waves
pub mod Tasks
pub mod Bound
pub mod Run
