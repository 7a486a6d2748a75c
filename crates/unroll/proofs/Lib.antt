pub mod Sourcing
pub mod Copying
pub mod Leaving
pub mod Rowing
pub mod Invariant
pub mod Joining
pub mod Obtaining
