-- What holds of the outbox, and of what it has of the session, whatever calls come.
pub mod FitReached
pub mod FitLinks
pub mod FitNumbers
pub mod FitClosed
pub mod FitLives
pub mod FitFollows
pub mod FitPlaces
pub mod FitReplies
pub mod FitWaiting
pub mod FitShown
pub mod FitPhases
