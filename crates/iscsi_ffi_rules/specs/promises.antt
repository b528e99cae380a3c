-- What must come of it. A reader has to trust these as well.
pub mod Deeds
pub mod Words
pub mod Starts
pub mod Needed
pub mod Ready
