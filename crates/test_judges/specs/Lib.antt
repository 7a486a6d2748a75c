pub mod Values
pub mod Driving
pub mod Numbers
pub mod Showing
pub mod Judging
pub mod Breaking
pub mod Joins
