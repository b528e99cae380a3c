pub mod Lines
pub mod Settling
pub mod Rows
