-- What was written, and what the initiator is known to have.
pub mod ArriveDeeds
pub mod ArriveNumbers
pub mod ArriveWalk
pub mod ArrivePlaces
pub mod ArriveThrough
