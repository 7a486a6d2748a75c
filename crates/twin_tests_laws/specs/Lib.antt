pub mod Windows
pub mod Lines
pub mod Tests
pub mod Laws
pub mod Names
