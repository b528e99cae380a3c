pub mod PlaceLemmas
pub mod LinkLemmas
pub mod WithoutLemmas
pub mod KeptLemmas
pub mod ReadLemmas
pub mod OpenLemmas
pub mod ListedLemmas
pub mod ClearLemmas
