pub mod private
pub mod promises
pub mod rules
