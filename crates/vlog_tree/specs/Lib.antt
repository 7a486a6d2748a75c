pub mod Signs
pub mod Lists
pub mod Spelling
pub mod Statements
pub mod Modules
pub mod Valuation
pub mod Fingerprints
pub mod Value
