pub mod Cids
pub mod Rows
