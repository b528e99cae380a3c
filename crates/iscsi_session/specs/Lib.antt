pub mod promises
pub mod private
