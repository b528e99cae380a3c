-- What must come of it. A reader has to trust these as well.
pub mod Executed
pub mod Flow
pub mod Enabling
pub mod Replies
pub mod Aborts
pub mod Closes
pub mod Lives
pub mod Answers
pub mod Numbering
pub mod Order
pub mod Meaning
pub mod Promises
