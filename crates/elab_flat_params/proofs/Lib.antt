pub mod Searches
pub mod FormNames
pub mod Known
pub mod Spans
pub mod Values
pub mod Parameters
pub mod Signals
pub mod Divisors
