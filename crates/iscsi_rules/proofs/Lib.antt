pub mod traces
pub mod general
pub mod promises
pub mod items
