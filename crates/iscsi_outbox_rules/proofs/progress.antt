-- Something goes out as long as anything waits.
pub mod DeadlockQueues
pub mod DeadlockSettled
pub mod DeadlockLogouts
pub mod DeadlockGives
pub mod DeadlockTheorem
