-- With which options an outbox opens, its limits, what a call answers, and what goes out in a form of its own.
pub mod Options
pub mod Responses
pub mod Called
