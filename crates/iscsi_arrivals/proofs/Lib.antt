pub mod CountLemmas
pub mod LastLemmas
pub mod TakingLemmas
pub mod PingLemmas
pub mod StandingLemmas
pub mod HeardLemmas
pub mod SinceLemmas
