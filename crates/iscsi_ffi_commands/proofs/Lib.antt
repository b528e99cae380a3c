pub mod CellLemmas
pub mod UnitLemmas
pub mod StateLemmas
pub mod KnownLemmas
pub mod ChangeLemmas
