-- How far commands have come, and those that left and owe something, in both.
pub mod Homes
pub mod LeftOut
pub mod TrackedLemmas
pub mod TrackedChanges
pub mod TrackedEnds
pub mod Lessening
pub mod LeftEnds
pub mod Stopping
pub mod StopsOut
pub mod StopsGone
pub mod Stops
pub mod Turning
pub mod TurningEach
pub mod TurningFresh
pub mod TurningLast
pub mod TurningCount
