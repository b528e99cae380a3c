pub mod Tickets
pub mod Rows
