-- All calls, and the end of each.
pub mod Ended
pub mod Finish
pub mod Moved
pub mod Ends
pub mod Quiet
pub mod Changed
pub mod Fitting
pub mod Opened
pub mod AllCalls
pub mod Telling
pub mod EndsWith
