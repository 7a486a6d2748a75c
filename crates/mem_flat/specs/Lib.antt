pub mod Borrowed
pub mod Cases
pub mod Texts
