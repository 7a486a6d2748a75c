pub mod Readings
pub mod LineNames
