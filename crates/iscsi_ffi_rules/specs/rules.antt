-- The target's side of a session: a state folded over the list of calls. A reader has to trust these.
pub mod Calls
pub mod Sides
pub mod Needs
pub mod Clearing
pub mod Happening
pub mod Run
