pub mod Copies
pub mod Unrolled
pub mod Named
