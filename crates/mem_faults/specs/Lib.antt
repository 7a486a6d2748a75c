pub mod Asked
pub mod Held
pub mod Faults
pub mod Kept
pub mod Used
pub mod Repeated
