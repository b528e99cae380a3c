-- What must come of it, said of the calls and what they answered alone. A reader has to trust these as well.
pub mod Deeds
pub mod Arrived
pub mod Scope
pub mod Silent
pub mod Still
pub mod Fence
pub mod Closed
pub mod Once
pub mod Numbers
pub mod Order
pub mod Deadlock
pub mod Room
pub mod Promises
