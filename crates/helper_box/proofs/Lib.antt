pub mod Turns
pub mod Ready
