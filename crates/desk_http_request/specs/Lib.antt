pub mod Front
pub mod Reading
pub mod Fields
pub mod Places
pub mod Asked
pub mod Joins
pub mod Seen
