pub mod Answers
pub mod Asked
pub mod Calls
pub mod Opened
pub mod Options
pub mod Standing
pub mod Responses
pub mod Held
