pub mod Condition
pub mod Faults
pub mod Tests
