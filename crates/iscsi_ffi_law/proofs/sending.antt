-- What a connection is given next, and what is written.
pub mod Queued
pub mod Writing
pub mod Handing
pub mod Sources
pub mod Replying
pub mod Noting
pub mod Next
pub mod Sleeping
pub mod NextCalls
