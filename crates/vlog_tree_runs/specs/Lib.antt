pub mod Places
pub mod Blocks
pub mod Contents
pub mod Scopes
pub mod Cycles
pub mod Laws
