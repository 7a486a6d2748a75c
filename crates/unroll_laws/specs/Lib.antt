pub mod Segments
pub mod Lines
pub mod Tests
pub mod Laws
pub mod Promises
pub mod Existence
