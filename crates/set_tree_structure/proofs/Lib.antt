pub mod Offsets
pub mod Firsts
pub mod Decided
pub mod Standing
pub mod Exact
pub mod Order
