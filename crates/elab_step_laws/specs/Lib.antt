pub mod Flows
pub mod Laws
