pub mod Scoped
pub mod Joined
pub mod Checked
pub mod Following
pub mod Laws
