pub mod Laws
pub mod Bits
pub mod Least
pub mod Walks
