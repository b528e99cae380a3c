-- What the end of a loop, and what `serve`, tell of all that was posted, taken and answered.
pub mod Outcomes
pub mod Full
pub mod Serving
