pub mod Links
pub mod Rows
