mod All
mod Decided
mod Moves
mod Rows
mod Steps
mod Sums
pub mod Sparing
