pub mod Asking
pub mod Faults
pub mod Single
pub mod Finding
pub mod Helps
mod Lookups
mod Ordered
pub mod Pieces
pub mod Placed
mod Proving
mod Puts
mod Seconds
mod Storing
pub mod Turns
mod Walking
mod Wholes
