pub mod TrackedLemmas
pub mod StateLemmas
