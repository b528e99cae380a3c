-- Lists, and how often something stands in them.
pub mod Lists
pub mod Members
pub mod Words
pub mod Ascending
