pub mod Answers
pub mod Plain
pub mod Serving
pub mod Inside
pub mod Ownership
