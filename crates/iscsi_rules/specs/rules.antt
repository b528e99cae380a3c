-- What happens: the rules of a session over its whole history. A reader has to trust these.
pub mod Settings
pub mod Trace
pub mod Execution
pub mod Management
pub mod Logout
pub mod Deeds
pub mod Items
pub mod Agenda
pub mod Run
