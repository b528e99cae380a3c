pub mod Commands
pub mod Kept
pub mod Rows
