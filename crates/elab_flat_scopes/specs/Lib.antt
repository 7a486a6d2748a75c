pub mod Borrowed
pub mod Finding
pub mod Sides
