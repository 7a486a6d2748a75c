pub mod Putting
pub mod Rowing
pub mod Searching
pub mod Cycling
pub mod Showing
