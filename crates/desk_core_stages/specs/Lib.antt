pub mod Texts
pub mod Stages
