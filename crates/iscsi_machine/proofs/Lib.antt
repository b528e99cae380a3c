pub mod Ascending
pub mod Agreement
pub mod ItemLemmas
pub mod MarkLemmas
pub mod AllowedLemmas
pub mod RunLemmas
