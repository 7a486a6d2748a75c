pub mod Forms
pub mod Exprs
pub mod Indices
pub mod Lefts
pub mod Parting
pub mod Stmts
pub mod Stores
pub mod Fetching
