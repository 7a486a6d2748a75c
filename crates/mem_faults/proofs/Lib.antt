pub mod Growing
pub mod Keeping
pub mod Using
pub mod Wholes
pub mod Telling
pub mod Repeating
pub mod Surveying
pub mod Faulty
