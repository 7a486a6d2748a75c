pub mod Joined
pub mod Rests
pub mod Sent
pub mod Settled
pub mod Unique
