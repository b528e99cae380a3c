-- Lists, tests, counts, numbers and places: nothing of a session.
pub mod BoolLemmas
pub mod ListLemmas
pub mod ElementLemmas
pub mod Missing
pub mod CountLemmas
pub mod NumberLemmas
pub mod PlaceLemmas
