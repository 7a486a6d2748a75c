pub mod Passing
pub mod Tabled
pub mod Driving
pub mod Clocking
pub mod Unread
pub mod Heads
pub mod Timings
pub mod Tables
