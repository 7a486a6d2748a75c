pub mod Orders
pub mod Finding
pub mod Joining
