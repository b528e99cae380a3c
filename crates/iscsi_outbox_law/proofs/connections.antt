-- A connection joins, changes, is closed or lost, in both.
pub mod LinkChanges
pub mod CountChanges
pub mod Standing
pub mod Joins
pub mod Dropping
pub mod Losing
