-- What goes out, and when: a state folded over the list of calls. A reader has to trust these.
pub mod Calls
pub mod Boxes
pub mod Words
pub mod Queues
pub mod Due
pub mod Items
pub mod Own
pub mod Handing
pub mod Run
