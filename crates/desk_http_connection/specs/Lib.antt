pub mod Request
pub mod Serve
pub mod Body
pub mod Rest
pub mod OneRequest
