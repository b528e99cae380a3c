pub mod promises
pub mod rules
pub mod Stepped
