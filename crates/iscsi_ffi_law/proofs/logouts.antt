-- A Logout closes connections, and what waits there is dropped.
pub mod Dropping
pub mod DroppingFunctions
pub mod DroppingEach
pub mod ClosingBox
pub mod ClosingTrace
pub mod ClosingOther
pub mod ClosingEach
pub mod ClosingPlaces
pub mod Parting
pub mod PartingOut
pub mod TailParts
