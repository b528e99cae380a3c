-- Connections that are closed: nothing goes out behind the answer that closes one.
pub mod MarkRuns
pub mod MarkItems
pub mod MarkCalls
pub mod SealRuns
pub mod SealItems
pub mod SealCalls
pub mod SealTheorem
pub mod ElsewhereTheorem
pub mod ClosesLemmas
pub mod TiedRuns
pub mod TiedCalls
pub mod ClosedParts
pub mod ClosedItems
pub mod ClosedTheorem
