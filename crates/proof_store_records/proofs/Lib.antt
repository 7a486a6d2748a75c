pub mod FrontLemmas
pub mod VarintLemmas
pub mod FixedLemmas
pub mod LitLemmas
pub mod DistanceLemmas
pub mod HintLemmas
pub mod RecordLemmas
