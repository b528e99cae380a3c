-- What the program answers and writes, with threads and without.
pub mod Replayed
pub mod Threaded
pub mod Again
pub mod Told
