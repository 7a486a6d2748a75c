mod Writing
mod Trying
pub mod Joins
mod Giving
pub mod Saving
mod Sides
mod Storing
mod Matching
mod Labelling
mod Choosing
mod Picking
mod Sparing
mod Taking
