pub mod Rows
pub mod Runs
pub mod Unmet
pub mod Steps
pub mod Texts
pub mod Stimuli
pub mod Graphs
