-- The answers to functions of several tasks, and what they wait for.
pub mod FenceRuns
pub mod FenceTheorem
pub mod FenceEntries
pub mod FenceOrder
