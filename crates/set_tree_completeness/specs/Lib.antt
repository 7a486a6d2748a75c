pub mod Terms
pub mod NextQ
pub mod Counter
pub mod Flip
pub mod Pipe
pub mod Hop
pub mod Waiter
pub mod Needed
