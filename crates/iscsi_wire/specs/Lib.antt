pub mod Serial
pub mod Fields
pub mod Codes
pub mod Replies
pub mod Pdus
pub mod Cids
