pub mod Answers
pub mod Declarations
pub mod Headers
pub mod Texts
