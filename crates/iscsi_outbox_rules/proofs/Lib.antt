pub mod general
mod numbers
mod order
pub mod commands
pub mod closes
mod arrivals
mod fences
pub mod aborts
pub mod progress
pub mod PromisesTheorem
pub mod room
