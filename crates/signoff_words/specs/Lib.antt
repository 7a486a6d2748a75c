pub mod Numbers
pub mod Options
pub mod Seen
pub mod Commands
