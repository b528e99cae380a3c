-- A trace, and what follows from it, as it grows by an item or an event.
pub mod RunLemmas
pub mod TraceLemmas
pub mod HeldLemmas
pub mod DeliveryLemmas
pub mod ApartLemmas
pub mod NewlyLemmas
pub mod TurnLemmas
pub mod FateLemmas
pub mod FlowItems
pub mod SetLemmas
