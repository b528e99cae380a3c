-- The transport of a connection is gone.
pub mod Losing
pub mod TailLost
pub mod LossGoes
pub mod LossFit
pub mod LossHead
pub mod LossEvent
pub mod LossOver
pub mod LossLaw
pub mod LossItem
pub mod Unanswered
