pub mod SlotLines
pub mod Scopes
pub mod Rows
