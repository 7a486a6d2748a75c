pub mod Places
pub mod ValuationLemmas
