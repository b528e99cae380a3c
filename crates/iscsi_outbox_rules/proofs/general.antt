-- Lists, and what each step keeps, so that items and calls keep it.
pub mod EachLemmas
pub mod Cuts
pub mod Walks
pub mod FirstLemmas
pub mod Linkwise
pub mod DeedLemmas
pub mod Chosen
pub mod Callwise
pub mod LinkRuns
pub mod FoundLemmas
pub mod Boxwise
pub mod SortedLemmas
pub mod ConnLemmas
pub mod TaskWalks
