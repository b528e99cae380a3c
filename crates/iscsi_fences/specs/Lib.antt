pub mod Passing
pub mod Rows
