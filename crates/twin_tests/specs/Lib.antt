pub mod Building
pub mod Leaves
pub mod Reading
pub mod Framing
pub mod Sharing
pub mod Ordering
pub mod Named
