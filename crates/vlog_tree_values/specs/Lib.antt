pub mod Operators
pub mod Shapes
pub mod Meanings
