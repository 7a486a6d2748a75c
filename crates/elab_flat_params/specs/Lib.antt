pub mod Bounds
pub mod Constants
pub mod Values
pub mod Parameters
pub mod Signals
