pub mod Assignable
pub mod Rows
pub mod Searching
pub mod Exprs
