pub mod Uses
pub mod Spread
pub mod Stands
pub mod Laws
