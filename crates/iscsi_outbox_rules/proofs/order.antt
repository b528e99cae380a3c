-- Each PDU goes out once at the most, and in which order they do.
pub mod SentLemmas
pub mod PlaceRuns
pub mod CountRuns
pub mod OnceTheorem
pub mod LineRuns
pub mod InOrderTheorem
pub mod TimeRuns
pub mod MomentTheorem
pub mod OwnRuns
pub mod OwnTheorem
pub mod PlaceSent
pub mod PlaceTimes
pub mod PlaceHere
pub mod PlaceCalls
pub mod PlaceTheorem
