pub mod Coding
pub mod Numbering
pub mod Pathing
pub mod Firsts
