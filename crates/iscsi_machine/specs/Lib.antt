pub mod Machine
pub mod Rows
