-- What holds of a target's side and of what the steps keep, whatever calls come.
pub mod FitSides
pub mod FitWalks
pub mod FitHolds
pub mod FitSteps
pub mod FitStepCalls
pub mod FitPlaced
pub mod FitSizes
pub mod FitSized
pub mod FitUsed
pub mod FitFree
pub mod FitLasts
