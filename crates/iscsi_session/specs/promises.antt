-- What the session promises: which calls it refuses, how many effects an event gives, and what event an arrival is.
pub mod Settings
pub mod Arrivals
pub mod Refusals
pub mod Bounds
