-- A request executes by which commands leave.
pub mod Leaving
pub mod LeavingBox
pub mod LeavingQueues
pub mod LeavingCommands
pub mod LeavingRequests
pub mod LeavingUses
pub mod LeavingWalk
pub mod LeavingHead
pub mod LeavingBy
pub mod LeavingItem
pub mod TailLeaves
