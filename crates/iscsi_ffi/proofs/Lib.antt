pub mod Outboxes
pub mod StandLemmas
pub mod WithheldLemmas
pub mod CallLemmas
pub mod PublicLemmas
pub mod OpenLemmas
