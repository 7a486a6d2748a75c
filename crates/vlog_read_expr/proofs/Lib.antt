pub mod Steps
pub mod Operands
pub mod ListSteps
pub mod SignTests
pub mod NameSteps
