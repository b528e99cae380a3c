pub mod Conns
pub mod Cookies
pub mod Numbers
pub mod Functions
pub mod Replies
pub mod Unwritten
pub mod Kept
pub mod Rows
