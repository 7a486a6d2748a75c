pub mod Parts
pub mod Waves
pub mod Lines
