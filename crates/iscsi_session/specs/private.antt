-- Bookkeeping by what a session keeps, for contracts within the crate and for the crates above it.
pub mod Standing
pub mod Invariant
pub mod Steps
pub mod Deeds
