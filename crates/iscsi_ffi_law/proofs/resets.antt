-- Another session's reset of a unit.
pub mod Clearing
pub mod Marking
pub mod Resetting
