pub mod ValueLemmas
pub mod CountLemmas
pub mod WalkLemmas
pub mod NumberLemmas
pub mod CookieLemmas
pub mod EntryLemmas
pub mod FoundLemmas
pub mod ReplyLemmas
