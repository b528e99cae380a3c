-- A command ends, and those that are withheld complete behind it.
pub mod DoneShape
pub mod DoneQueue
pub mod DonePhases
pub mod DoneBox
pub mod DoneRoom
pub mod DoneWalk
pub mod DoneRequests
pub mod DoneRules
pub mod Doing
pub mod DoneCounts
pub mod DoneHeld
pub mod DoneAfter
pub mod DoneMid
pub mod DoneChain
pub mod DoneCalls
