-- Bookkeeping of turns and of threads that run. For private contracts alone.
pub mod Ends
pub mod Posting
pub mod Halts
pub mod Promises
pub mod Finishing
pub mod Watched
