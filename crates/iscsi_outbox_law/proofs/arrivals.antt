-- Something is written, or known to have arrived, in both.
pub mod Arriving
pub mod ArrivedOne
pub mod Trails
pub mod Silence
pub mod Hearing
