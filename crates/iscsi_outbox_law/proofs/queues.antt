-- What enters the queue of a connection, and what is due, in both.
pub mod Waiting
pub mod Entering
pub mod Dues
pub mod Rooms
pub mod Settling
pub mod Puts
pub mod PutStands
