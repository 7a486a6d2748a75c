pub mod Standing
pub mod Saving
pub mod Sparing
pub mod Targets
pub mod Ready
pub mod Lefts
pub mod Runs
pub mod Cases
