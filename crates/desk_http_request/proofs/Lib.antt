pub mod FewFields
pub mod Judged
pub mod Lines
pub mod Taken
pub mod Within
