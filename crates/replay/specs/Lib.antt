pub mod Puts
pub mod Texts
pub mod Values
pub mod Windows
pub mod Segments
