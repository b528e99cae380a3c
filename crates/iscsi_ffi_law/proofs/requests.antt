-- The requests that are kept: their places, their uses, and which ones the rules need no more.
pub mod NameLemmas
pub mod Replies
pub mod Needs
pub mod Kept
pub mod Cookies
pub mod Releasing
pub mod Releases
pub mod Core
pub mod KeptCounts
pub mod Aside
