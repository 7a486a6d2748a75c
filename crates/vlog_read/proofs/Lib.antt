pub mod ListSteps
pub mod Steps
pub mod PartSteps
pub mod EventSteps
pub mod InstanceSteps
pub mod HeaderSteps
pub mod ItemSteps
pub mod TextSteps
