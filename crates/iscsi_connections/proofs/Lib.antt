pub mod PlaceLemmas
pub mod CountLemmas
pub mod ViewLemmas
pub mod ChangeLemmas
pub mod OpenLemmas
