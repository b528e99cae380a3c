-- The bytes of what goes out, and what `next` would give.
pub mod Headers
pub mod Words
