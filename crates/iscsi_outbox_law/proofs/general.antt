-- Lists, lists that go together, and places in them.
pub mod PairLemmas
pub mod PlaceLemmas
pub mod Members
