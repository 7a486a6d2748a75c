mod OneCycle
mod SameRuns
pub mod Carried
