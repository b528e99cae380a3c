-- Which PDU a connection is given next, in both.
pub mod Fencing
pub mod Asking
pub mod Giving
pub mod HandedLemmas
pub mod Nexts
pub mod NextStands
pub mod NextAfter
