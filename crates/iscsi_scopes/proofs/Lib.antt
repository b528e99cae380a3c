pub mod ScopeLemmas
pub mod ScopeOpening
pub mod KeyLemmas
pub mod KeyCalls
pub mod FacetLemmas
