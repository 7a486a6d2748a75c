pub mod PlainNumbers
pub mod Sequences
pub mod SmallNumbers
pub mod Answers
pub mod Steps
pub mod PartSteps
pub mod PropertySteps
pub mod Formed
