pub mod Front
pub mod Varint
pub mod Layout
pub mod Records
