pub mod Binding
pub mod Designing
