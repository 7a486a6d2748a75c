pub mod Moved
pub mod Uses
pub mod Flattened
pub mod Laws
