-- Bookkeeping of an outbox, for private contracts and for the crates above.
pub mod Kept
pub mod Choices
pub mod Walks
