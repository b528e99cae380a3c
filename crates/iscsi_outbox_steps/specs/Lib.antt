pub mod State
pub mod Steps
pub mod Run
pub mod Rows
