pub mod Clauses
pub mod Lines
pub mod Properties
pub mod Sets
pub mod Texts
mod Words
mod Plain
mod Placed
mod Coded
pub mod Known
