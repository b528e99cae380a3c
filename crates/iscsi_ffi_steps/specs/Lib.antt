pub mod State
pub mod Walk
pub mod Steps
pub mod Rows
