-- What a call answers, and how many PDUs go out.
pub mod Said
pub mod Room
