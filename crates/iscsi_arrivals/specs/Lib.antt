pub mod Counts
pub mod Stamps
pub mod Standing
pub mod Rows
