pub mod Parts
pub mod Sources
pub mod Placing
pub mod Ordering
pub mod Asked
pub mod Groups
