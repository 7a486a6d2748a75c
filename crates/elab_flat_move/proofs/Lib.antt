pub mod Pairs
pub mod Exprs
pub mod Lefts
pub mod Stmts
pub mod Copying
