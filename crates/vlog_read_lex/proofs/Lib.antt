pub mod PlaceLemmas
pub mod NumberLemmas
pub mod PieceLemmas
pub mod LawLemmas
pub mod LongestLemmas
pub mod TokenLemmas
