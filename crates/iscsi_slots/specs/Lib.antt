pub mod Queued
pub mod Slots
pub mod Places
