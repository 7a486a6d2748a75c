pub mod Naming
pub mod Testing
pub mod Violations
pub mod Roots
