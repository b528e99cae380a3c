-- PDUs of the target's own, and those of no command.
pub mod NotePlaces
pub mod NoteMoves
pub mod Notes
pub mod Flags
pub mod PutQueues
pub mod Putting
