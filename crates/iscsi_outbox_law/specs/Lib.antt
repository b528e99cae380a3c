pub mod private
pub mod rules
pub mod examples
pub mod promises
