pub mod Steps
pub mod Reading
pub mod Agreeing
pub mod Carried
pub mod Fixing
pub mod Starting
pub mod Uniqueness
pub mod Ordered
