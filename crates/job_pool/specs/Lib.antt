pub mod Evidence
pub mod Shown
pub mod Jobs
pub mod Rule
pub mod Seats
pub mod Ample
