-- What holds of a session and its trace, whatever calls come.
pub mod FitArrivals
pub mod FitParting
pub mod FitJoined
pub mod FitHeld
pub mod FitMarks
pub mod FitTurns
pub mod FitPrompt
pub mod FitReceived
pub mod FitOnce
pub mod FitFirst
pub mod FitCounts
pub mod FitLimits
pub mod FitOrder
pub mod FitReplied
pub mod FitLeaving
pub mod FitEmptied
