-- A request is taken, or refused.
pub mod Slots
pub mod Admitting
pub mod Refusing
pub mod Asked
pub mod Opens
pub mod Turns
pub mod ArriveItems
pub mod ArriveLaw
pub mod ArriveOpens
pub mod Arrivals
