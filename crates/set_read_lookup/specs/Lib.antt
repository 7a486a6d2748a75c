pub mod Meaning
pub mod Faults
pub mod Formed
pub mod Tests
