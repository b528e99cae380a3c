pub mod ItemLemmas
pub mod MoveLemmas
pub mod SettleLemmas
pub mod DueLemmas
pub mod LineLemmas
