pub mod SlotLemmas
pub mod ShareLemmas
pub mod HalvingLemmas
pub mod SortedLemmas
