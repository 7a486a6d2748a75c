mod Carrying
mod Checked
mod Meaning
pub mod Reporting
mod Numbering
mod Standing
mod Telling
mod Traces
mod Refusing
mod Agreeing
mod Excluding
mod Repeating
