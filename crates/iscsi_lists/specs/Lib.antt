pub mod Lists
pub mod Linking
pub mod Rows
