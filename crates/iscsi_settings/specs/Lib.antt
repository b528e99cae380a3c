pub mod Limits
pub mod Command
