pub mod Tracked
pub mod Kept
pub mod Rows
