pub mod Commands
pub mod Log
