pub mod Dimacs
pub mod Words
pub mod Lines
pub mod Steps
pub mod Faults
pub mod Reading
