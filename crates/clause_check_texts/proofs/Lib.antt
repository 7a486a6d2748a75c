pub mod WordLemmas
pub mod LineLemmas
pub mod IdLemmas
pub mod FollowLemmas
pub mod ReadLemmas
