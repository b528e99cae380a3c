-- The exit status of each end of the program.
pub mod Stops
