pub mod Fit
pub mod Sized
pub mod Ready
pub mod Memories
pub mod Names
pub mod Numbers
