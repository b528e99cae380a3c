pub mod rules
pub mod promises
pub mod examples
