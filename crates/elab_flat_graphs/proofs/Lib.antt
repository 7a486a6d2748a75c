mod Searching
mod Levelling
pub mod Turns
pub mod Rounds
pub mod Closing
