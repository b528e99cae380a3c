-- What is premised of each call holds, so that every list of calls goes alike.
pub mod FitLoss
pub mod FitHeard
pub mod FitRefusals
pub mod FitFacts
pub mod FitPremises
pub mod FitRoom
pub mod FitReady
pub mod FitItems
pub mod FitEvents
pub mod FitAll
pub mod FitAlike
