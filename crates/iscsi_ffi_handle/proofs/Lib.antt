pub mod AsBox
pub mod ByteLemmas
pub mod CallLemmas
pub mod OpenLemmas
pub mod TellLemmas
