pub mod Stable
pub mod Lengths
pub mod Keeping
pub mod Standing
pub mod Paths
pub mod Signals
pub mod Ports
pub mod Sides
pub mod Blocks
pub mod Sizing
pub mod Evaluating
pub mod Asking
pub mod Spreading
pub mod Storing
pub mod Elaborating
mod Words
mod Elements
mod Exprs
mod Bodies
mod Parts
pub mod Reading
pub mod Values
pub mod NumberedSignals
pub mod NumberFacts
