pub mod Making
pub mod Moving
pub mod Paths
pub mod Becoming
pub mod Rows
pub mod Noting
pub mod Forgetting
