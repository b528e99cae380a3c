pub mod Waits
pub mod Lane
